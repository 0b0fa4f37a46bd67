-- What a connection writes of a request whose end was put is in plain form.
use Rattle.std.proofs.Common.{◌≡◌, inl, inr, ℕ, zero, suc, ◌-◌, ◌<◌, ◌≤◌, true, false, cond, List, [], ◌∷◌, ◌++◌, map}
use Rattle.std.proofs.Common.{length, take, drop, Option, Some, None, Result, Ok, Err, All, sym, refl, ap, ◌∙◌}
use Rattle.std.proofs.Common.{append_assoc, append-nil, arith, subst, length-append, flat_map, count_by}
use Rattle.std.specs.List.{AllByRecursion, concat}
use Rattle.std.proofs.lemmas.Grind.{flat_map-append}
use Rattle.std.proofs.lemmas.List.{nil_from_length}
use Rattle.std.proofs.lemmas.List.Elements.{All-head, All-tail}
use Rattle.gateway_connection.specs.Readers.{IsSpelled, AreFirstOf, AreSpelled, Message, Reader, TakesAll}
use Rattle.gateway_connection.specs.Readers.{TakesOrRejects, message_of, content_of, message_put, part_if, part_now}
use Rattle.gateway_connection.specs.Readers.{read_request, whole_if, whole_now, whole_requests, NeedsMore, Takes}
use Rattle.std.proofs.lemmas.Bool.Decides.{nat_tests}
use Rattle.std.proofs.lemmas.Bool.{and_parts, cond-true, ltb-false, ltb-true, ne_eqb}
use Rattle.http1.specs.Client.{new_client, request_plan}
use Rattle.http1.specs.Fields.{Header, is_framing_field, known_fields}
use Rattle.http1.specs.Conservative.{ArePlainFields, IsPlainBody, IsPlainChunked, IsPlainRequest, plain_chunk}
use Rattle.http1.specs.Conn.{Plan, awaits_head, data_refusal, finish_refusal, is_plain, plan_refusal, planned_headers}
use Rattle.http1.specs.Conn.{states_framing}
use Rattle.http1.specs.Encoder.{after_piece, encoder_for, end_refusal, end_text, piece_refusal, piece_text}
use Rattle.http1.specs.Head.{are_headers, head_refusal, is_request_line}
use Rattle.http1.specs.Text.{numeral}
use Rattle.http1.specs.declared.conn.BodySize.{BodySize}
use Rattle.http1.specs.declared.conn.Limits.{Limits}
use Rattle.http1.specs.declared.conn.Writing.{Writing}
use Rattle.http1.specs.declared.encode.Encoder.{Encoder}
use Rattle.http1.specs.declared.error.WriteError.{WriteError}
use Rattle.http1.specs.declared.framing.Framing.{Framing}
use Rattle.http1.proofs.FieldsLemmas.{plain_without_framing}
use Rattle.http1.proofs.HeadRoundTrip.{not_refused}
use Rattle.http1.proofs.MessageRoundTrip.{request_plan_framed}
use Rattle.httparse.specs.Ascii.{crlf_bytes}
use Rattle.gateway_connection.specs.Content.{after_pieces, pieces_text}
use Rattle.gateway_connection.specs.Exchanges.{Exchange, ReadsKept, Request, encoder_in, plan_of, request_bytes}
use Rattle.gateway_connection.specs.History.{IsReached, Now, Past, asks, change, is_over, now_text, tell, texts}
use Rattle.gateway_connection.specs.History.{with_piece, with_trailers, Fresh, Asked, Hears, Over, Opened, Received}
use Rattle.gateway_connection.specs.History.{Finished, Begun, Put, Closed, Refused, Written, Said}
use Rattle.gateway_connection.specs.Steps.{Begins}
use Rattle.gateway_connection.specs.declared.event.OriginEvent.{OriginEvent}
use Rattle.gateway_connection.specs.declared.origin.OriginConnection.{OriginConnection}
use Rattle.gateway_connection.proofs.ContentLemmas.{writing_at}
use Rattle.gateway_connection.proofs.HistoryLemmas.{WritesAt, exchanged, writes_now}
use Rattle.gateway_connection.proofs.ReaderLemmas.{plain_request_is_taken}
use Rattle.http1.specs.declared.encode.Encoder.TheVariants as Encodes
use Rattle.http1.specs.declared.framing.Framing.TheVariants as Framed
use Rattle.gateway_connection.specs.declared.event.OriginEvent.TheVariants as Is

-- ---- content

-- each piece was accepted after those before it
abbrev AreAccepted : List (List ℕ) → Encoder → Type 0
AreAccepted [] e = Unit {0}
AreAccepted (piece ∷ pieces) e =
    (piece_refusal e (length piece) ≡ None) × AreAccepted pieces (after_piece e (length piece))

accepted-append : (pieces : List (List ℕ)) (piece : List ℕ) (e : Encoder) → AreAccepted pieces e
    → piece_refusal (after_pieces pieces e) (length piece) ≡ None → AreAccepted (pieces ++ piece ∷ []) e
accepted-append [] piece e accepted last = (last, tt)
accepted-append (first ∷ pieces) piece e accepted last =
    (accepted.0, accepted-append pieces piece (after_piece e (length first)) accepted.1 last)

-- what an end was put to, of a message with this encoder
abbrev wire_of : List (List ℕ) → Encoder → List Header → List ℕ
wire_of pieces e trailers = pieces_text pieces e ++ end_text (after_pieces pieces e) trailers

sized_wire : (pieces : List (List ℕ)) (left : ℕ) (trailers : List Header) → AreAccepted pieces (Encodes.Length left)
    → end_refusal (after_pieces pieces (Encodes.Length left)) trailers ≡ None
    → (wire_of pieces (Encodes.Length left) trailers ≡ concat pieces) × (length (concat pieces) ≡ left)
sized_wire [] left trailers accepted end = (refl, grind (arith, nat_tests))
sized_wire (piece ∷ pieces) left trailers accepted end =
    let here = accepted.0 in
    let room : length piece ≤ left = grind (arith, nat_tests) in
    let later = sized_wire pieces (left - length piece) trailers accepted.1 end in (
      append_assoc (piece ++ []) _ _ ∙ (λ i. append-nil piece i ++ later.0 i),
      omega (arith, length-append piece (concat pieces), later.1),
    )

plain_trailers : (trailers : List Header) → end_refusal Encodes.Chunked trailers ≡ None → ArePlainFields 0 trailers
unfolding known_fields
plain_trailers trailers accepted =
    let valid : are_headers trailers ≡ true = grind arith in
    let unframed : states_framing (known_fields trailers) ≡ false = grind arith in
    let none : count_by is_framing_field trailers ≤ 0 = omega (arith, ltb-false 0 _ unframed) in
    record { valid = valid; few = none; plain = plain_without_framing trailers none }

record IsChunkedWire (wire content : List ℕ) : Type 0 where
  plain : IsPlainChunked wire
  same : concat plain.pieces ≡ content

chunked_wire : (pieces : List (List ℕ)) (trailers : List Header)
    → end_refusal (after_pieces pieces Encodes.Chunked) trailers ≡ None
    → IsChunkedWire (wire_of pieces Encodes.Chunked trailers) (concat pieces)
chunked_wire [] trailers end = record {
  plain = record {
    pieces = [];
    trailers = trailers;
    text = refl;
    not_empty = tt;
    plain_trailers = plain_trailers trailers end;
  };
  same = refl;
}
chunked_wire ([] ∷ pieces) trailers end =
    let later = chunked_wire pieces trailers end in record { plain = later.plain; same = later.same }
chunked_wire ((b ∷ bs) ∷ pieces) trailers end =
    let later = chunked_wire pieces trailers end in
    let piece = b ∷ bs in
    let chunk : piece_text Encodes.Chunked piece ≡ plain_chunk piece =
    ap (λ t. cond t [] (numeral 16 (length piece) ++ crlf_bytes) ++ (piece ++ cond t [] crlf_bytes))
    (ne_eqb (length piece) 0 (omega arith)) in
    record {
      plain = record {
        pieces = piece ∷ later.plain.pieces;
        trailers = later.plain.trailers;
        text = append_assoc (piece_text Encodes.Chunked piece) _ _ ∙ (λ i. chunk i ++ later.plain.text i)
            ∙ sym (append_assoc (plain_chunk piece) _ _);
        not_empty = (omega arith, later.plain.not_empty);
        plain_trailers = later.plain.plain_trailers;
      };
      same = ap (λ l. piece ++ l) later.same;
    }

open_wire : (pieces : List (List ℕ)) (trailers : List Header)
    → wire_of pieces Encodes.UntilClose trailers ≡ concat pieces
open_wire [] trailers = refl
open_wire (piece ∷ pieces) trailers =
    append_assoc (piece ++ []) _ _ ∙ (λ i. append-nil piece i ++ open_wire pieces trailers i)

record IsBody (framing : Framing) (wire content : List ℕ) : Type 0 where
  plain : IsPlainBody framing wire
  same : content_of framing wire plain ≡ content

body_of : (framing : Framing) (pieces : List (List ℕ)) (trailers : List Header)
    → AreAccepted pieces (encoder_for framing) → end_refusal (after_pieces pieces (encoder_for framing)) trailers ≡ None
    → IsBody framing (wire_of pieces (encoder_for framing) trailers) (concat pieces)
body_of Framed.NoBody pieces trailers accepted end =
    let sized = sized_wire pieces 0 trailers accepted end in
    let none = nil_from_length (concat pieces) sized.1 in
    record { plain = sized.0 ∙ none; same = sym none }
body_of (Framed.Length len) pieces trailers accepted end =
    let sized = sized_wire pieces len trailers accepted end in
    record { plain = ap length sized.0 ∙ sized.1; same = sized.0 }
body_of Framed.Chunked pieces trailers accepted end =
    let chunked = chunked_wire pieces trailers end in record { plain = chunked.plain; same = chunked.same }
body_of Framed.UntilClose pieces trailers accepted end = record { plain = tt; same = open_wire pieces trailers }

-- ---- requests

-- a request whose head and pieces were accepted, and its end, if it was put
record IsAccepted (r : Request) : Type 0 where
  plan : Plan
  planned : plan_of r ≡ Ok plan
  line : head_refusal (is_request_line r.method r.target 1) (r.headers ++ plan.extra) ≡ None
  pieces : AreAccepted r.pieces (encoder_for plan.framing)
  end : (trailers : List Header) → r.trailers ≡ Some trailers
      → end_refusal (after_pieces r.pieces (encoder_for plan.framing)) trailers ≡ None

plain_fields : (hs : List Header) → are_headers hs ≡ true → is_plain (known_fields hs) ≡ true → ArePlainFields 1 hs
unfolding known_fields
plain_fields hs valid plain =
    let parts = and_parts _ (known_fields hs).plain_framing plain in
    record { valid = valid; few = omega (arith, ltb-true _ 2 parts.0); plain = parts.1 }

record IsPlain (r : Request) : Type 0 where
  plain : IsPlainRequest (request_bytes r)
  fields : plain.fields ≡ planned_headers (plan_of r) r.headers
  message : message_of plain ≡ message_put r

plain_request : (limits : Limits) (r : Request) (trailers : List Header) → r.trailers ≡ Some trailers → IsAccepted r
    → IsPlain r
plain_request limits r trailers ended accepted =
    let plan = accepted.plan in
    let tests = not_refused _ (r.headers ++ plan.extra) accepted.line in
    let framed = request_plan_framed (new_client limits) r.method r.size r.headers plan accepted.planned in
    let body = body_of plan.framing r.pieces trailers accepted.pieces (accepted.end trailers ended) in
    record {
      plain = record {
        method = r.method;
        target = r.target;
        fields = r.headers ++ plan.extra;
        framing = plan.framing;
        wire = wire_of r.pieces (encoder_for plan.framing) trailers;
        parts = rw (accepted.planned, ended) refl;
        line = tests.0;
        plain_fields = plain_fields _ tests.1 framed.2;
        framed = framed.0;
        body = body.plain;
      };
      fields = rw accepted.planned refl;
      message = λ i. record { method = r.method; target = r.target; content = body.same i };
    }

-- ---- histories

abbrev AcceptedNow : Now → Type 0
AcceptedNow Fresh = Unit {0}
AcceptedNow (Asked r interim) = IsAccepted r
AcceptedNow (Hears r interim response content) = IsAccepted r
AcceptedNow (Over e) = IsAccepted e.request

all_append : {X : Type 0} (P : X → Type 0) (xs ys : List X) → AllByRecursion P xs → AllByRecursion P ys
    → AllByRecursion P (xs ++ ys)
all_append P [] ys first second = second
all_append P (x ∷ xs) ys first second = (first.0, all_append P xs ys first.1 second)

over_accepted : (now : Now) → AcceptedNow now → AllByRecursion (λ (e : Exchange). IsAccepted e.request) (is_over now)
over_accepted Fresh accepted = tt
over_accepted (Asked r interim) accepted = tt
over_accepted (Hears r interim response content) accepted = tt
over_accepted (Over e) accepted = (accepted, tt)

begun_by : (r : Request) (plan : Result Plan WriteError) → r.pieces ≡ [] → r.trailers ≡ None → plan_of r ≡ plan
    → plan_refusal plan (is_request_line r.method r.target 1) r.headers ≡ None → IsAccepted r
begun_by r (Ok plan) empty unended is none = record {
  plan = plan;
  planned = is;
  line = none;
  pieces = rw empty tt;
  end = λ trailers ended. absurd (cc);
}
begun_by r (Err error) empty unended is none = absurd (cc)

begun : {old new : OriginConnection} {method target : List ℕ} {headers : List Header} {size : BodySize}
    → Begins old method target headers size new → IsAccepted (asks method target headers size)
begun {old} {new} {method} {target} {headers} {size} b =
    let plan : request_plan old.client method size headers ≡ plan_of (asks method target headers size) =
    cond-true _ _ _ (ap awaits_head b.fit.idle) in
    begun_by (asks method target headers size) _ refl refl refl (rw plan at b.accepted)

module _ (r : Request) (w : Writing) (accepted : IsAccepted r) where
  abbrev encoder : Encoder
  encoder = after_pieces r.pieces (encoder_in (plan_of r))

  encoder_is : encoder ≡ after_pieces r.pieces (encoder_for accepted.plan.framing)
  encoder_is = ap (λ p. after_pieces r.pieces (encoder_in p)) accepted.planned

  put_one : (t : Option (List Header)) (piece : List ℕ) → r.trailers ≡ t → w ≡ writing_at t encoder
      → data_refusal w (length piece) ≡ None → IsAccepted (with_piece piece r)
  put_one None piece unended is none = record {
    plan = accepted.plan;
    planned = accepted.planned;
    line = accepted.line;
    pieces = accepted-append r.pieces piece (encoder_for accepted.plan.framing) accepted.pieces
        (ap (λ e. piece_refusal e (length piece)) (sym encoder_is) ∙ (rw is at none));
    end = λ trailers ended. absurd (cc);
  }
  put_one (Some trailers) piece ended is none = absurd (cc (rw is at none))

  end_one : (t : Option (List Header)) (trailers : List Header) → w ≡ writing_at t encoder
      → finish_refusal w trailers ≡ None → IsAccepted (with_trailers trailers r)
  end_one None trailers is none = record {
    plan = accepted.plan;
    planned = accepted.planned;
    line = accepted.line;
    pieces = accepted.pieces;
    end = λ last ended.
        let same : trailers ≡ last = cc in
        rw (← same) (ap (λ e. end_refusal e trailers) (sym encoder_is) ∙ (rw is at none));
  }
  end_one (Some before) trailers is none = absurd (cc (rw is at none))

put_now : (now : Now) (w : Writing) (piece : List ℕ) → AcceptedNow now → WritesAt now w
    → data_refusal w (length piece) ≡ None → AcceptedNow (change (with_piece piece) now)
put_now (Asked r interim) w piece accepted is none = put_one r w accepted r.trailers piece refl is none
put_now (Hears r interim response content) w piece accepted is none =
    put_one r w accepted r.trailers piece refl is none
put_now Fresh w piece accepted is none = tt
put_now (Over e) w piece accepted is none = accepted

end_now : (now : Now) (w : Writing) (trailers : List Header) → AcceptedNow now → WritesAt now w
    → finish_refusal w trailers ≡ None → AcceptedNow (change (with_trailers trailers) now)
end_now (Asked r interim) w trailers accepted is none = end_one r w accepted r.trailers trailers is none
end_now (Hears r interim response content) w trailers accepted is none =
    end_one r w accepted r.trailers trailers is none
end_now Fresh w trailers accepted is none = tt
end_now (Over e) w trailers accepted is none = accepted

said_now : (event : OriginEvent) (now : Now) → AcceptedNow now → AcceptedNow (tell event now)
said_now (Is.Interim response) (Asked r interim) accepted = accepted
said_now (Is.Head response) (Asked r interim) accepted = accepted
said_now (Is.Switched response) (Asked r interim) accepted = accepted
said_now (Is.Content piece) (Hears r interim response content) accepted = accepted
said_now (Is.End trailers) (Hears r interim response content) accepted = accepted
said_now event now accepted = accepted

record Accepts (p : Past) : Type 0 where
  before : AllByRecursion (λ (e : Exchange). IsAccepted e.request) p.before
  now : AcceptedNow p.now

accepts : {limits : Limits} {m : OriginConnection} {p : Past} → IsReached limits m p → Accepts p
accepts (Opened m new) = record { before = tt; now = tt }
accepts (Received old new p bytes before going r) =
    let a = accepts before in record { before = a.before; now = a.now }
accepts (Finished old new p before is) = accepts before
accepts (Begun old new p method target headers size before b) =
    let a = accepts before in
    record { before = all_append _ p.before (is_over p.now) a.before (over_accepted p.now a.now); now = begun b }
accepts (Put old new p piece before puts) =
    let a = accepts before in
    record { before = a.before; now = put_now p.now _ piece a.now (writes_now before puts.0) puts.1 }
accepts (Closed old new p trailers before ends) =
    let a = accepts before in
    record { before = a.before; now = end_now p.now _ trailers a.now (writes_now before ends.0) ends.1 }
accepts (Refused old new p before kept) = accepts before
accepts (Written old new p count before within out) =
    let a = accepts before in record { before = a.before; now = a.now }
accepts (Said old new p event before says) =
    let a = accepts before in record { before = a.before; now = said_now event p.now a.now }

-- ---- what readers take

-- of some requests, a reader takes the first
module _ (r : Reader) {X : Type 0} (text : X → List ℕ) (message : X → Message) where
  abbrev IsTaken : X → Type 0
  IsTaken x = (after : List ℕ) → TakesOrRejects (message x) after (read_request r (text x ++ after))

  abbrev AreFirst : List X → List ℕ → List Message → List ℕ → Type 0
  AreFirst xs more messages rest =
      (messages ≡ map message (take (length messages) xs))
      × (rest ≡ flat_map text (drop (length messages) xs) ++ more)

  cuts : (xs : List X) (more : List ℕ) (messages : List Message) (rest : List ℕ) → AllByRecursion IsTaken xs
      → TakesAll r (flat_map text xs ++ more) messages rest → length messages ≤ length xs
      → AreFirst xs more messages rest
  cuts xs more [] rest each takes fits = (refl, sym takes)
  cuts [] more (m ∷ messages) rest each takes fits = absurd (omega arith)
  cuts (x ∷ xs) more (m ∷ messages) rest each takes fits =
      by_case (each.0 tail) (λ left. cuts xs more messages rest each.1 (rw left at takes.2) (omega arith))
    where
      tail : List ℕ
      tail = flat_map text xs ++ more

      read : read_request r (text x ++ tail) ≡ Takes m takes.0
      read = ap (read_request r) (sym (append_assoc (text x) (flat_map text xs) more)) ∙ takes.1

      by_case : TakesOrRejects (message x) tail (read_request r (text x ++ tail))
          → (takes.0 ≡ tail → AreFirst xs more messages rest) → AreFirst (x ∷ xs) more (m ∷ messages) rest
      by_case (inl is) later =
          let same : m ≡ message x = cc (is, read) in
          let left : takes.0 ≡ tail = cc (is, read) in
          let first = later left in
          ((λ i. same i ∷ first.0 i), first.1)
      by_case (inr rejects) later = absurd (cc (rejects, read))

  -- and never waits for more before it has taken them all
  goes_on : (xs : List X) (more : List ℕ) (k : ℕ) → AllByRecursion IsTaken xs → k < length xs
      → ¬ (read_request r (flat_map text (drop k xs) ++ more) ≡ NeedsMore)
  goes_on [] more k each inside waits = absurd (omega arith)
  goes_on (x ∷ xs) more (suc k) each inside waits = goes_on xs more k each.1 (omega arith) waits
  goes_on (x ∷ xs) more zero each inside waits = by_case (each.0 tail)
    where
      tail : List ℕ
      tail = flat_map text xs ++ more

      read : read_request r (text x ++ tail) ≡ NeedsMore
      read = ap (read_request r) (sym (append_assoc (text x) (flat_map text xs) more)) ∙ waits

      by_case : ¬ (TakesOrRejects (message x) tail (read_request r (text x ++ tail)))
      by_case (inl takes) = absurd (cc (takes, read))
      by_case (inr rejects) = absurd (cc (rejects, read))

plains_before : (limits : Limits) (es : List Exchange) (stream rest : List ℕ) → ReadsKept limits stream es rest
    → AllByRecursion (λ (e : Exchange). IsAccepted e.request) es → AllByRecursion IsPlain (map (λ e. e.request) es)
plains_before limits [] stream rest kept accepted = tt
plains_before limits (e ∷ es) stream rest kept accepted = (
  by_trailers e.request.trailers refl,
  plains_before limits es kept.1 rest kept.5 accepted.1,
)
  where
    by_trailers : (t : Option (List Header)) → e.request.trailers ≡ t → IsPlain e.request
    by_trailers None none = absurd (kept.4.whole none)
    by_trailers (Some trailers) is = plain_request limits e.request trailers is accepted.0

plain_whole : (limits : Limits) (r : Request) (t : Option (List Header)) → r.trailers ≡ t → IsAccepted r
    → AllByRecursion IsPlain (whole_if r t)
plain_whole limits r None is accepted = tt
plain_whole limits r (Some trailers) is accepted = (plain_request limits r trailers is accepted, tt)

plains_now : (limits : Limits) (now : Now) → AcceptedNow now → AllByRecursion IsPlain (whole_now now)
plains_now limits Fresh accepted = tt
plains_now limits (Asked r interim) accepted = plain_whole limits r r.trailers refl accepted
plains_now limits (Hears r interim response content) accepted = plain_whole limits r r.trailers refl accepted
plains_now limits (Over e) accepted = plain_whole limits e.request e.request.trailers refl accepted

each_taken : (reader : Reader) (rs : List Request) → AllByRecursion IsPlain rs → All (AreSpelled reader) rs
    → AllByRecursion (IsTaken reader request_bytes message_put) rs
each_taken reader [] plains spelled = tt
each_taken reader (r ∷ rs) plains spelled = (
  λ after. rw (← plains.0.message) (plain_request_is_taken reader (request_bytes r) after plains.0.plain
      (subst (λ (hs : List Header). All (IsSpelled reader) hs) (sym plains.0.fields)
      (All-head (AreSpelled reader) r rs spelled))),
  each_taken reader rs plains.1 (All-tail (AreSpelled reader) r rs spelled),
)

texts-requests : (es : List Exchange) → texts es ≡ flat_map request_bytes (map (λ e. e.request) es)
texts-requests [] = refl
texts-requests (e ∷ es) = ap (λ t. request_bytes e.request ++ t) (texts-requests es)

text-whole : (r : Request) (t : Option (List Header))
    → request_bytes r ≡ flat_map request_bytes (whole_if r t) ++ part_if r t
text-whole r None = refl
text-whole r (Some trailers) = sym (append-nil _ ∙ append-nil _)

now_text-whole : (now : Now) → now_text now ≡ flat_map request_bytes (whole_now now) ++ part_now now
now_text-whole Fresh = refl
now_text-whole (Asked r interim) = text-whole r r.trailers
now_text-whole (Hears r interim response content) = text-whole r r.trailers
now_text-whole (Over e) = text-whole e.request e.request.trailers

module _ {limits : Limits} {m : OriginConnection} {p : Past} (reader : Reader) (more : List ℕ)
    (messages : List Message) (rest : List ℕ) (reached : IsReached limits m p)
    (spelled : All (AreSpelled reader) (whole_requests p))
    (takes : TakesAll reader ((p.sent ++ m.output.items) ++ more) messages rest) where
  each : AllByRecursion (IsTaken reader request_bytes message_put) (whole_requests p)
  each =
      let a = accepts reached in
      let kept = (exchanged reached).before [] (λ ended. refl) in
      each_taken reader (whole_requests p) (all_append IsPlain (map (λ (e : Exchange). e.request) p.before) _
      (plains_before limits p.before _ _ kept a.before) (plains_now limits p.now a.now)) spelled

  bytes : (p.sent ++ m.output.items) ++ more ≡ flat_map request_bytes (whole_requests p) ++ (part_now p.now ++ more)
  bytes =
      let before = map (λ (e : Exchange). e.request) p.before in
      ap (λ t. t ++ more) ((exchanged reached).written
      ∙ (λ i. texts-requests p.before i ++ now_text-whole p.now i)
      ∙ sym (append_assoc (flat_map request_bytes before) _ _)
      ∙ ap (λ t. t ++ part_now p.now) (sym (flat_map-append request_bytes before (whole_now p.now))))
      ∙ append_assoc (flat_map request_bytes (whole_requests p)) _ more

  pub written_alike : length messages ≤ length (whole_requests p)
      → AreFirstOf (whole_requests p) (part_now p.now ++ more) messages rest
  written_alike fits = cuts reader request_bytes message_put (whole_requests p) (part_now p.now ++ more) messages rest
      each (rw bytes at takes) fits

  pub reading_goes_on : length messages < length (whole_requests p) → ¬ (read_request reader rest ≡ NeedsMore)
  reading_goes_on fits waits = goes_on reader request_bytes message_put (whole_requests p) (part_now p.now ++ more)
      (length messages) each fits (rw (written_alike (omega arith)).1 at waits)
