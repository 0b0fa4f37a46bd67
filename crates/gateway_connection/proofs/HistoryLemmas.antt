-- What is true after every history of calls.
use Rattle.std.proofs.Common.{◌≡◌, ◌≢◌, ℕ, ◌≤◌, inl, inr, Bool, true, false, cond, ◌&&◌, not, List, [], ◌∷◌, ◌++◌, take}
use Rattle.std.proofs.Common.{drop, map, Option, Some, None, Result, Ok, Err, sym, refl, ap, ◌∙◌, append_assoc}
use Rattle.std.proofs.{Common.{append-nil, arith, IsTrue, ltb, subst}, Math.Seq.drop-length, lemmas.Bool.and_parts}
use Rattle.std.proofs.lemmas.{Bool.{cond-true, Decides.nat_tests}, List.take-append-drop}
use Rattle.httparse.specs.{Grammar.{Field, ResponseHead, status_code}, Spans.name_and_value}
use Rattle.{httparse.proofs.GrammarLemmas.ReadsResponse-append, http_header.specs.FieldValue.FieldValue}
use Rattle.{http_header.specs.HeaderMap.Entries, http1.specs.{Body.body_of, Decoder.{Completes, Continues}}}
use Rattle.http1.specs.{Decoder.{decoder_for, with_front}, Fields.Header, Client.{after_head, closed_client}}
use Rattle.http1.specs.{Client.{is_interim, is_written, new_client, request_plan, requesting, switches}, Conn.Plan}
use Rattle.http1.specs.{Conn.{awaits_head, is_until_close, keeps_alive, plan_refusal}, Framing.has_no_body}
use Rattle.http1.specs.{Framing.method_kind, Head.is_request_line, Message.{AcceptsResponse, ReadsResponseMessage}}
use Rattle.http1.specs.{Message.known_of, declared.{client.Client.Client, conn.{BodySize.BodySize, Limits.Limits}}}
use Rattle.http1.specs.declared.{conn.{Reading.Reading, Writing.Writing}, decode.Decoder.Decoder}
use Rattle.http1.specs.declared.{decode.Decoder.TheVariants.UntilClose, encode.Encoder.Encoder}
use Rattle.http1.specs.declared.{error.WriteError.WriteError, framing.Framing.{Framing, TheVariants.NoBody}}
use Rattle.http1.{specs.declared.framing.MethodKind.MethodKind, proofs.DecoderLemmas.decoder_for-live}
use Rattle.{http1.proofs.OneParse.body_from_completes, gateway_connection.proofs.ContentLemmas.{end_at, front_goes}}
use Rattle.gateway_connection.proofs.ContentLemmas.{front_grows, put_at, takes_data, takes_end, writing_at}
use Rattle.gateway_connection.{proofs.FindLemmas.final_stays, specs.Exchanges.{Exchange, IsKept, ReadsExchange}}
use Rattle.gateway_connection.specs.Exchanges.{ReadsInterim, ReadsKept, Request, encoder_in, head_text, keeps_in}
use Rattle.gateway_connection.specs.{Exchanges.{plan_of, request_bytes, told_of}, History.{Exchanged, IsReached}}
use Rattle.gateway_connection.specs.History.{IsTold, MayFollow, Now, Past, asks, change, is_over, no_past, now_text}
use Rattle.gateway_connection.specs.History.{tell, texts, with_piece, with_trailers, Fresh, Asked, Hears, Over, Opened}
use Rattle.gateway_connection.specs.History.{Received, Finished, Begun, Put, Closed, Refused, Written, Said}
use Rattle.gateway_connection.specs.{Content.{after_pieces, map_of}, Responses.response_of}
use Rattle.gateway_connection.specs.declared.event.{OriginEvent.OriginEvent, OriginFault.OriginFault}
use Rattle.gateway_connection.specs.declared.event.OriginResponse.{OriginResponse}
use Rattle.gateway_connection.specs.{declared.origin.OriginConnection.OriginConnection, Steps.{Begins, Ends}}
use Rattle.gateway_connection.specs.Steps.{EndsContent, Fails, Finds, Finishes, HandsOut, IsDue, IsOver, Puts}
use Rattle.gateway_connection.specs.Steps.{PutsNothing, Receives, SaysAt, TakesEnd, Waits, WaitsAt}
use Rattle.http1.specs.Message as Message
use Rattle.http1.specs.declared.conn.Reading.TheVariants as Reads
use Rattle.http1.specs.declared.conn.Writing.TheVariants as Writes
use Rattle.http1.specs.declared.framing.MethodKind.TheVariants as Method
use Rattle.gateway_connection.specs.declared.event.OriginEvent.TheVariants as Is

-- ---- requests

-- the bytes of a request
abbrev pub writing_of : Request → Writing
writing_of r = writing_at r.trailers (after_pieces r.pieces (encoder_in (plan_of r)))

texts-append : (es : List Exchange) (e : Exchange) → texts (es ++ e ∷ []) ≡ texts es ++ request_bytes e.request
texts-append [] e = append-nil (request_bytes e.request)
texts-append (first ∷ es) e = rw (texts-append es e) (sym (append_assoc (request_bytes first.request) _ _))

-- ---- the stream

interim-append : {limits : Limits} {method : MethodKind} {middle rest : List ℕ} (rs : List OriginResponse)
    (stream : List ℕ) (m : Message.Response) (response : OriginResponse) → ReadsInterim limits method stream rs middle
    → ReadsResponseMessage limits method middle m rest → response ≡ response_of m.head
    → IsTrue (is_interim response.status) → ReadsInterim limits method stream (rs ++ response ∷ []) rest
interim-append [] stream m response reads message is low = (m, _, rw reads message, is, low, refl)
interim-append (first ∷ rs) stream m response reads message is low =
    (reads.0, reads.1, reads.2, reads.3, reads.4, interim-append rs reads.1 m response reads.5 message is low)

kept-append : {limits : Limits} {middle rest : List ℕ} (es : List Exchange) (stream : List ℕ) (e : Exchange)
    (m : Message.Response) → ReadsKept limits stream es middle → ReadsExchange limits middle e m rest
    → e.final ≡ told_of m → IsKept e.request m → ReadsKept limits stream (es ++ e ∷ []) rest
kept-append [] stream e m reads exchange told kept = (m, _, rw reads exchange, told, kept, refl)
kept-append (first ∷ es) stream e m reads exchange told kept =
    (reads.0, reads.1, reads.2, reads.3, reads.4, kept-append es reads.1 e m reads.5 exchange told kept)

-- ---- the client

-- the client sends this request, and reads its response
abbrev Sends : Client → Request → Reading → Bool → Type 0
Sends c r reading keeps =
    (c.reading ≡ reading) × (c.writing ≡ writing_of r) × (c.method ≡ method_kind r.method) × (c.keep_alive ≡ keeps)

-- the connection is kept after both heads
abbrev keeps_both : Request → ResponseHead → Framing → Bool
keeps_both r h framing =
    keeps_in (plan_of r) && (keeps_alive h.minor (known_of h.fields) && not (is_until_close framing))

-- the client sends no request: it may send the next one, or nothing more
abbrev IsRest : Writing → Reading → Type 0
IsRest Writes.Head reading = reading ≡ Reads.Head
IsRest Writes.Upgraded reading = IsOver reading
IsRest Writes.Closed reading = IsOver reading
IsRest writing reading = ⊥

-- after an exchange
abbrev Rests : Client → Request → Message.Response → Type 0
Rests c r m = IsRest c.writing c.reading × (c.writing ≡ Writes.Head → IsKept r m)

-- what the client does, by what was told
abbrev IsAt : (ended : Bool) (start : List ℕ) (c : Client) (now : Now) (unread : List ℕ)
    → IsTold c.limits ended start now unread → Type 0
IsAt ended start c Fresh unread x = IsRest c.writing c.reading
IsAt ended start c (Asked r interim) unread x = Sends c r Reads.Head (keeps_in (plan_of r))
IsAt ended start c (Hears r interim response content) unread x =
    Sends c r (Reads.Body x.decoder) (keeps_both r x.head x.framing)
IsAt ended start c (Over e) unread x = Rests c e.request x.final

-- what a read leaves as it was
record Frame : Type 0 where
  limits : Limits
  ended : Bool
  output : List ℕ
  received : List ℕ
  sent : List ℕ
  before : List Exchange

-- the exchanges before, and what was written
record Since (k : Frame) (text : List ℕ) : Type 0 where
  written : k.sent ++ k.output ≡ texts k.before ++ text
  start : List ℕ
  kept : (more : List ℕ) → MayFollow k.ended more → ReadsKept k.limits (k.received ++ more) k.before (start ++ more)

-- a connection that hasn't failed
record Goes (k : Frame) (c : Client) (input : List ℕ) (now : Now) : Type 0 where
  since : Since k (now_text now)
  limited : c.limits ≡ k.limits
  told : IsTold c.limits k.ended since.start now input
  at : IsAt k.ended since.start c now input told

rests_body : (w : Writing) (d : Decoder) → ¬ (IsRest w (Reads.Body d))
rests_body Writes.Head d rests = absurd (cc)
rests_body w d rests = rests

rests_due : (w : Writing) → awaits_head w ≡ false → ¬ (IsRest w Reads.Head)
rests_due Writes.Head due rests = absurd (cc)
rests_due w due rests = rests

rests_open : (w : Writing) (e : Encoder) (r : Reading) → w ≡ Writes.Body e → ¬ (IsRest w r)
rests_open (Writes.Body f) e r is rests = rests
rests_open w e r is rests = absurd (cc)

asked_busy : (t : Option (List Header)) (e : Encoder) → ¬ (writing_at t e ≡ Writes.Head)
asked_busy None e idle = absurd (cc)
asked_busy (Some trailers) e idle = absurd (cc)

-- ---- the input goes on, or ends

grows : {old new : Bool} (bytes : List ℕ) → ((more : List ℕ) → MayFollow new more → MayFollow old (bytes ++ more))
    → (P : List ℕ → List ℕ → Type 0) (a b : List ℕ) → ((more : List ℕ) → MayFollow old more → P (a ++ more) (b ++ more))
    → (more : List ℕ) → MayFollow new more → P ((a ++ bytes) ++ more) ((b ++ bytes) ++ more)
grows bytes follows P a b f more may = simp append_assoc (f (bytes ++ more) (follows more may))

goes_grows : {k : Frame} {c : Client} {input : List ℕ} (new : Bool) (bytes : List ℕ)
    → ((more : List ℕ) → MayFollow new more → MayFollow k.ended (bytes ++ more)) → (now : Now) → Goes k c input now
    → Goes (record k { ended = new; received = k.received ++ bytes }) c (input ++ bytes) now
goes_grows {k} {c} {input} new bytes follows now g =
    let x = grown now g.told g.at in record { since = since; limited = g.limited; told = x.0; at = x.1 }
  where
    since : Since (record k { ended = new; received = k.received ++ bytes }) (now_text now)
    since = record {
      written = g.since.written;
      start = g.since.start ++ bytes;
      kept = grows bytes follows (λ s t. ReadsKept k.limits s k.before t) k.received g.since.start g.since.kept;
    }

    to : Now → Type 0
    to now = (x : IsTold c.limits new since.start now (input ++ bytes)) × IsAt new since.start c now (input ++ bytes) x

    grown : (now : Now) (x : IsTold c.limits k.ended g.since.start now input)
        → IsAt k.ended g.since.start c now input x → to now
    grown Fresh x at = (ap (λ (s : List ℕ). s ++ bytes) x, at)
    grown (Asked r interim) x at = (
      grows bytes follows (λ s t. ReadsInterim c.limits (method_kind r.method) s interim t) g.since.start input x,
      at,
    )
    grown (Hears r interim response content) x at = (
      record {
        at = x.at ++ bytes;
        came = grows bytes follows (λ s t. ReadsInterim c.limits (method_kind r.method) s interim t) g.since.start x.at
            x.came;
        head = x.head;
        framing = x.framing;
        after = x.after ++ bytes;
        accepts = λ more. simp append_assoc (x.accepts (bytes ++ more));
        told = x.told;
        decoder = x.decoder;
        front = front_grows bytes x.front;
      },
      at,
    )
    grown (Over e) x at = (
      record {
        final = x.final;
        told = x.told;
        reads = grows bytes follows (λ s t. ReadsExchange c.limits s e x.final t) g.since.start input x.reads;
      },
      at,
    )

-- ---- heads

-- a response without content
bodiless : {limits : Limits} {method : MethodKind} {input rest : List ℕ} {h : ResponseHead} {framing : Framing}
    → AcceptsResponse limits method input h framing rest → has_no_body method (status_code h) ≡ true
    → ReadsResponseMessage limits method input (record { head = h; body = body_of [] [] }) rest
bodiless {limits} {method} {input} {rest} {h} {framing} accepts none =
    let framed : Ok NoBody ≡ Ok framing = rw none at accepts.framed in
    let is : NoBody ≡ framing = cc in
    record { framing = framing; after_head = rest; head = accepts; body = rw (← is) (refl, refl, refl) }

switching_has_no_body : (c : Client) (method : MethodKind) (status : ℕ)
    → switches (record c { method = method }) status ≡ true → has_no_body method status ≡ true
switching_has_no_body c Method.Head status is = refl
switching_has_no_body c method status is = grind (arith, nat_tests)

interim_has_no_body : (method : MethodKind) (status : ℕ) → 100 ≤ status → is_interim status ≡ true
    → has_no_body method status ≡ true
interim_has_no_body Method.Head status low high = refl
interim_has_no_body method status low high = grind (arith, nat_tests)

-- an interim response leaves the client as it was
interim_switches : (c : Client) (method : MethodKind) (status : ℕ) → is_interim status ≡ true
    → switches (record c { method = method }) status ≡ false
interim_switches c Method.Head status is = grind (arith, nat_tests)
interim_switches c method status is = grind (arith, nat_tests)

interim_low : (status : ℕ) → is_interim status ≡ true → ltb status 200 ≡ true
interim_low status is = grind (arith, nat_tests)

interim_stays : (c : Client) (h : ResponseHead) (framing : Framing) → is_interim (status_code h) ≡ true
    → after_head c h framing ≡ c
interim_stays c h framing low = rw (interim_switches c c.method (status_code h) low, interim_low (status_code h) low)

-- ---- steps

-- the request goes on
module _ (pieces : Request → List (List ℕ)) (trailers : Request → Option (List Header)) (w : Writing) (text : List ℕ)
  where
    abbrev more_of : Request → Request
    more_of r = record r { pieces = pieces r; trailers = trailers r }

    longer : {k : Frame} (r : Request) → Since k (request_bytes r) → request_bytes (more_of r) ≡ request_bytes r ++ text
        → Since (record k { output = k.output ++ text }) (request_bytes (more_of r))
    longer {k} r s more = record {
      written = sym (append_assoc k.sent k.output text) ∙ ap (λ (t : List ℕ). t ++ text) s.written
          ∙ rw more (append_assoc (texts k.before) (request_bytes r) text);
      start = s.start;
      kept = s.kept;
    }

    put_now : {k : Frame} {c : Client} {input : List ℕ} → ((e : Encoder) × (c.writing ≡ Writes.Body e))
        → ((r : Request) → c.writing ≡ writing_of r → (w ≡ writing_of (more_of r))
        × (request_bytes (more_of r) ≡ request_bytes r ++ text)) → (now : Now) → Goes k c input now
        → Goes (record k { output = k.output ++ text }) (record c { writing = w }) input (change more_of now)
    unfolding longer
    put_now is_open puts Fresh g = absurd (rests_open _ _ _ is_open.1 g.at)
    put_now is_open puts (Asked r interim) g = let p = puts r g.at.1 in
        record { since = longer r g.since p.1; limited = g.limited; told = g.told; at = (g.at.0, p.0, g.at.2, g.at.3) }
    put_now is_open puts (Hears r interim response content) g = let p = puts r g.at.1 in
        record { since = longer r g.since p.1; limited = g.limited; told = g.told; at = (g.at.0, p.0, g.at.2, g.at.3) }
    put_now is_open puts (Over e) g = absurd (rests_open _ _ _ is_open.1 g.at.0)

waits_body : (c next : Client) (rest input : List ℕ) (r : Reading) (d : Decoder) → r ≡ Reads.Body d
    → WaitsAt r c input next rest → WaitsAt (Reads.Body d) c input next rest
waits_body c next rest input r d is found = rw is at found

waits_rest : (c next : Client) (input rest : List ℕ) (w : Writing) (r : Reading) → IsRest w r
    → WaitsAt r c input next rest → (next ≡ c) × (rest ≡ input)
waits_rest c next input rest w Reads.Head rests found = (found.0, found.1)
waits_rest c next input rest w (Reads.Body d) rests found = absurd (rests_body w d rests)
waits_rest c next input rest w r rests found = absurd found

-- after the end the client is idle only if the connection is kept
cycle_rests : (c : Client) (d : Decoder) (r : Request) (m : Message.Response) (framing : Framing) → Sends c r
    (Reads.Body d) (keeps_both r m.head framing) → (again : Bool) → (c.keep_alive && is_written c.writing) ≡ again
    → Rests (cond again (new_client c.limits) (closed_client (record c { reading = Reads.Done }))) r m
cycle_rests c d r m framing sends true is = (
  refl,
  λ idle.
      let both = and_parts c.keep_alive _ is in
      let keeps = and_parts (keeps_in (plan_of r)) _ (sym sends.3 ∙ both.0) in
      record {
        whole = written_whole r.trailers _ (rw sends.1 at both.1);
        request = keeps.0;
        response = (and_parts (keeps_alive m.head.minor (known_of m.head.fields)) _ keeps.1).0;
      },
)
  where
    written_whole : (t : Option (List Header)) (e : Encoder) → is_written (writing_at t e) ≡ true → t ≢ None
    written_whole None e written none = absurd (cc)
    written_whole (Some trailers) e written none = absurd (cc)
cycle_rests c d r m framing sends false is = (tt, λ idle. absurd (cc))

module _ {k : Frame} {c : Client} {input : List ℕ} where
  -- the next request begins where the last exchange is over
  begins : (now : Now) → Goes k c input now → c.writing ≡ Writes.Head → ((more : List ℕ)
      → MayFollow k.ended more → ReadsKept k.limits (k.received ++ more) (k.before ++ is_over now) (input ++ more))
      × (k.sent ++ k.output ≡ texts (k.before ++ is_over now)) × (c.reading ≡ Reads.Head)
  begins Fresh g idle = (
    λ more may. rw (append-nil k.before) (rw g.told at (g.since.kept more may)),
    rw (append-nil k.before) (g.since.written ∙ append-nil (texts k.before)),
    rw idle at g.at,
  )
  begins (Asked r interim) g idle = absurd (asked_busy r.trailers _ (sym g.at.1 ∙ idle))
  begins (Hears r interim response content) g idle = absurd (asked_busy r.trailers _ (sym g.at.1 ∙ idle))
  begins (Over e) g idle = (
    λ more may. kept-append k.before _ e g.told.final (g.since.kept more may) (rw g.limited at (g.told.reads more may))
        g.told.told (g.at.1 idle),
    g.since.written ∙ sym (texts-append k.before e),
    rw idle at g.at.0,
  )

  -- content goes on
  hears_now : {next : Client} {rest : List ℕ} (r : Request) (interim : List OriginResponse) (response : OriginResponse)
      (content piece : List ℕ) (after : Decoder) (len : ℕ) (g : Goes k c input (Hears r interim response content))
      → Continues g.told.decoder input after len piece → rest ≡ drop len input
      → next ≡ record c { reading = Reads.Body after } → Goes k next rest (Hears r interim response (content ++ piece))
  hears_now r interim response content piece after len g continues left goes =
      let x = g.told in
      rw (left, goes) (record {
        since = g.since;
        limited = g.limited;
        told = record {
          at = x.at;
          came = x.came;
          head = x.head;
          framing = x.framing;
          after = x.after;
          accepts = x.accepts;
          told = x.told;
          decoder = after;
          front = front_goes x.front continues;
        };
        at = (refl, g.at.1, g.at.2, g.at.3);
      })

  wait_now : {next : Client} {rest : List ℕ} (now : Now) → Goes k c input now → WaitsAt c.reading c input next rest
      → Goes k next rest now
  wait_now Fresh g found = let same = waits_rest _ _ _ _ c.writing c.reading g.at found in rw (same.0, same.1) g
  wait_now (Asked r interim) g found =
      let same = waits_rest _ _ _ _ Writes.Head c.reading g.at.0 found in rw (same.0, same.1) g
  wait_now {next} {rest} (Hears r interim response content) g found =
      let w = waits_body c next rest input c.reading g.told.decoder g.at.0 found in
      rw (append-nil content) at (hears_now r interim response content [] w.0 w.1 g w.2.continues w.3 w.4)
  wait_now (Over e) g found = let same = waits_rest _ _ _ _ c.writing c.reading g.at.0 found in rw (same.0, same.1) g

  -- a response is read
  heard : (P : Now → Type 0) {d : Decoder} → c.reading ≡ Reads.Body d → ((r : Request) (interim : List OriginResponse)
      (response : OriginResponse) (content : List ℕ) (g : Goes k c input (Hears r interim response content))
      → g.told.decoder ≡ d → P (Hears r interim response content)) → (now : Now) → Goes k c input now → P now
  heard P {d} is f Fresh g = absurd (rests_body c.writing d (rw is at g.at))
  heard P is f (Asked r interim) g = absurd (cc (is, g.at.0))
  heard P is f (Hears r interim response content) g = f r interim response content g (cc (is, g.at.0))
  heard P {d} is f (Over e) g = absurd (rests_body c.writing d (rw is at g.at.0))

  piece_now : {next : Client} {rest : List ℕ} (d after : Decoder) (len : ℕ) (piece : List ℕ) → c.reading ≡ Reads.Body d
      → Continues d input after len piece → rest ≡ drop len input → next ≡ record c { reading = Reads.Body after }
      → (now : Now) → Goes k c input now → Goes k next rest (tell (Is.Content piece) now)
  piece_now {next} {rest} d after len piece is continues left goes =
      heard (λ now. Goes k next rest (tell (Is.Content piece) now)) is (λ r interim response content g same.
      hears_now r interim response content piece after len g (rw same continues) left goes)

  over_now : (fields : List Field) (rest : List ℕ) {d : Decoder} {trailers : Entries FieldValue} {next : Client}
      → c.reading ≡ Reads.Body d → ((more : List ℕ) → MayFollow k.ended more → Completes d (input ++ more)
      (body_of [] fields) (rest ++ more)) → trailers ≡ map_of (map name_and_value fields) → next.limits ≡ c.limits →
      ((r : Request) (m : Message.Response) (framing : Framing) → Sends c r (Reads.Body d) (keeps_both r m.head framing)
      → Rests next r m) → (now : Now) → Goes k c input now → Goes k next rest (tell (Is.End trailers) now)
  over_now fields rest {d} {trailers} {next} is completes same limited rests =
      heard (λ now. Goes k next rest (tell (Is.End trailers) now)) is (λ r interim response content g decoders.
      let x = g.told in
      let m : Message.Response = record { head = x.head; body = with_front content (body_of [] fields) } in
      record {
        since = g.since;
        limited = limited ∙ g.limited;
        told = record {
          final = m;
          told = λ i. record { response = x.told i; content = (sym (append-nil content)) i; trailers = same i };
          reads = λ more may. rw limited (record {
            between = x.at ++ more;
            interim = x.came more may;
            final = record {
              framing = x.framing;
              after_head = x.after ++ more;
              head = x.accepts more;
              body = body_from_completes c.limits x.framing (x.after ++ more) m.body (rest ++ more)
                  (x.front.back more (body_of [] fields) (rest ++ more) (rw decoders (completes more may)));
            };
          });
        };
        at = rests r m x.framing (is, g.at.1, g.at.2, g.at.3);
      })

  -- ---- heads

  -- the head of a response to a request
  module _ (h : ResponseHead) (framing : Framing) {rest : List ℕ}
      (accepts : AcceptsResponse c.limits c.method input h framing rest) (due : IsDue c) where
    asked : (P : Now → Type 0) → ((r : Request) (interim : List OriginResponse) → Goes k c input (Asked r interim)
        → ((more : List ℕ) → AcceptsResponse c.limits (method_kind r.method) (input ++ more) h framing (rest ++ more))
        → P (Asked r interim)) → (now : Now) → Goes k c input now → P now
    asked P f Fresh g = absurd (rests_due c.writing due.1 (rw due.0 at g.at))
    asked P f (Asked r interim) g = f r interim g (λ more. rw (← g.at.2) (record {
      reads = ReadsResponse-append input h rest more accepts.reads;
      strict = accepts.strict;
      status = accepts.status;
      framed = accepts.framed;
    }))
    asked P f (Hears r interim response content) g = absurd (cc (due.0, g.at.0))
    asked P f (Over e) g = absurd (rests_due c.writing due.1 (rw due.0 at g.at.0))

    interim_now : is_interim (status_code h) ≡ true → (now : Now) → Goes k c input now
        → Goes k (after_head c h framing) rest (tell (Is.Interim (response_of h)) now)
    interim_now low = asked (λ now. Goes k (after_head c h framing) rest (tell (Is.Interim (response_of h)) now))
        (λ r interim g accepted. rw (interim_stays c h framing low) (record {
          since = g.since;
          limited = g.limited;
          told = λ more may. interim-append interim _
              (record { head = h; body = body_of [] [] }) (response_of h) (g.told more may) (bodiless
              (accepted more) (interim_has_no_body (method_kind r.method) (status_code h) accepts.status low)) refl low;
          at = g.at;
        }))

    head_now : is_interim (status_code h) ≡ false → switches c (status_code h) ≡ false → (now : Now)
        → Goes k c input now → Goes k (after_head c h framing) rest (tell (Is.Head (response_of h)) now)
    head_now final stays = asked (λ now. Goes k (after_head c h framing) rest (tell (Is.Head (response_of h)) now))
        (λ r interim g accepted. rw (final_stays c h framing final stays) (record {
          since = g.since;
          limited = g.limited;
          told = record {
            at = input;
            came = g.told;
            head = h;
            framing = framing;
            after = rest;
            accepts = accepted;
            told = refl;
            decoder = decoder_for c.limits framing;
            front = record {
              live = decoder_for-live c.limits framing;
              back = λ more body rest completes. completes;
              forth = λ more whole rest completes. (whole, refl, completes);
            };
          };
          at = (
            refl,
            g.at.1,
            g.at.2,
            ap (λ (b : Bool). b && (keeps_alive h.minor (known_of h.fields) && not (is_until_close framing))) g.at.3,
          );
        }))

    switched_now : switches c (status_code h) ≡ true → (now : Now) → Goes k c input now
        → Goes k (after_head c h framing) rest (tell (Is.Switched (response_of h)) now)
    switched_now switched = asked (λ now. Goes k (after_head c h framing) rest (tell (Is.Switched (response_of h)) now))
        (λ r interim g accepted. rw switched (record {
          since = g.since;
          limited = g.limited;
          told = record {
            final = record { head = h; body = body_of [] [] };
            told = refl;
            reads = λ more may. record {
              between = input ++ more;
              interim = g.told more may;
              final = bodiless (accepted more)
                  (rw g.at.2 at (switching_has_no_body c c.method (status_code h) switched));
            };
          };
          at = (tt, λ idle. absurd (cc));
        }))

-- ---- histories

abbrev frame : Limits → Bool → List ℕ → Past → Frame
frame limits ended output p = record {
  limits = limits;
  ended = ended;
  output = output;
  received = p.received;
  sent = p.sent;
  before = p.before;
}

abbrev GoesAt : Limits → OriginConnection → Past → Now → Type 0
GoesAt limits m p now = Goes (frame limits m.ended m.output.items p) m.client m.input.items now

-- any connection: it goes on, or it did until it failed
record Run (limits : Limits) (ended : Bool) (c : Client) (input output : List ℕ) (fault : Option OriginFault) (p : Past)
    : Type 0 where
  client : Client
  unread : List ℕ
  goes : Goes (frame limits ended output p) client unread p.now
  left : fault ≡ None → (client ≡ c) × (unread ≡ input)

abbrev RunAt : Limits → OriginConnection → Past → Type 0
RunAt limits m p = Run limits m.ended m.client m.input.items m.output.items m.fault p

goes_of : {limits : Limits} {ended : Bool} {c : Client} {i o : List ℕ} {f : Option OriginFault} {p : Past}
    → Run limits ended c i o f p → f ≡ None → Goes (frame limits ended o p) c i p.now
goes_of r none = let left = r.left none in rw (← left.0, ← left.1) r.goes

run_of : {limits : Limits} {ended : Bool} {c : Client} {i o : List ℕ} {f : Option OriginFault} {p : Past}
    → Goes (frame limits ended o p) c i p.now → Run limits ended c i o f p
run_of {limits} {ended} {c} {i} {o} {f} {p} g = record { client = c; unread = i; goes = g; left = λ none. (refl, refl) }

run_grows : {limits : Limits} {old new : Bool} (bytes : List ℕ) → ((more : List ℕ) → MayFollow new more
    → MayFollow old (bytes ++ more)) → {c : Client} {i o : List ℕ} {f : Option OriginFault} {p : Past}
    → Run limits old c i o f p → Run limits new c (i ++ bytes) o f (record p { received = p.received ++ bytes })
run_grows {limits} {old} {new} bytes follows {c} {i} {o} {f} {p} r = record {
  client = r.client;
  unread = r.unread ++ bytes;
  goes = goes_grows new bytes follows p.now r.goes;
  left = λ none. ((r.left none).0, ap (λ (u : List ℕ). u ++ bytes) (r.left none).1);
}

-- the input of a connection that waits within content that only its end ends
waits_empty : (r : Reading) (c next : Client) (input rest : List ℕ) → c.reading ≡ r → WaitsAt r c input next rest
    → next.reading ≡ Reads.Body UntilClose → rest ≡ []
waits_empty Reads.Head c next input rest is found until = let reading = rw found.0 at until in absurd (cc)
waits_empty (Reads.Body d) c next input rest is found until =
    let same : Reads.Body found.0 ≡ Reads.Body UntilClose = rw found.4 at until in
    let last : found.0 ≡ UntilClose = cc in
    found.3 ∙ elim found.2.drained [
      | inl all ↦ rw all (drop-length input)
      | inr trailers ↦ absurd (rw last at trailers)
    ]
waits_empty r c next input rest is found until = absurd found

module _ {limits : Limits} {old new : OriginConnection} {p : Past} where
  wait_goes : Waits old new → GoesAt limits old p p.now → GoesAt limits new p p.now
  wait_goes w g = rw w.rest (wait_now p.now g w.found)

  end_goes : {trailers : Entries FieldValue} → TakesEnd old trailers new → GoesAt limits old p p.now
      → GoesAt limits new p (tell (Is.End trailers) p.now)
  end_goes t g =
      let again = old.client.keep_alive && is_written old.client.writing in
      rw (t.rest, t.client) (over_now t.fields _ t.reading (λ more may. t.completes more) t.parts (cycle_limits again)
      (λ r m framing sends. cycle_rests old.client t.decoder r m framing sends again refl) p.now g)
    where
      cycle_limits : (again : Bool) → (cond again (new_client old.client.limits)
          (closed_client (record old.client { reading = Reads.Done }))).limits ≡ old.client.limits
      cycle_limits true = refl
      cycle_limits false = refl

  close_goes : {trailers : Entries FieldValue} → old.ended ≡ true → old.input.items ≡ []
      → EndsContent old trailers new → GoesAt limits old p p.now → GoesAt limits new p (tell (Is.End trailers) p.now)
  close_goes ended empty t g = rw t.rest (over_now {c = old.client} {input = old.input.items}
      [] old.input.items t.reading (λ more may. rw (empty, may ended) (refl, refl, refl)) t.parts t.limits
      (λ r m framing sends. rw (t.writing, t.over) (tt, λ idle. absurd (cc))) p.now g)

find_goes : {limits : Limits} {p : Past} (old new : OriginConnection) (event : OriginEvent) → Finds old event new
    → GoesAt limits old p p.now → GoesAt limits new p (tell event p.now)
find_goes old new Is.NeedsInput found g = wait_goes found.1 g
find_goes {limits} {p} old new (Is.Interim response) found g = let t = found.1 in
    rw (t.rest, t.client, t.parts) (interim_now t.head t.framing t.accepts t.due (rw t.parts at found.0) p.now g)
find_goes {limits} {p} old new (Is.Head response) found g = let t = found.2 in
    rw (t.rest, t.client, t.parts)
    (head_now t.head t.framing t.accepts t.due (rw t.parts at found.0) (rw t.parts at found.1) p.now g)
find_goes {limits} {p} old new (Is.Content piece) found g = rw found.rest
    (piece_now found.decoder found.next found.len piece found.reading found.continues found.input found.client p.now g)
find_goes old new (Is.End trailers) (inl found) g = end_goes found g
find_goes {limits} {p} old new (Is.End trailers) (inr found) g = let w = found.2 in
    close_goes {old = found.1} {new = new}
    (ap (λ (m : OriginConnection). m.ended) w.rest ∙ found.0) (waits_empty old.client.reading
    old.client found.1.client old.input.items found.1.input.items refl w.found found.3.reading) found.3 (wait_goes w g)
find_goes {limits} {p} old new (Is.Switched response) found g = let t = found.2 in
    rw (t.rest, t.client, t.parts) (switched_now t.head t.framing t.accepts t.due (rw t.parts at found.1) p.now g)
find_goes old new Is.Closed (inl found) g = rw found.1 g
find_goes old new Is.Closed (inr found) g = rw found.3.0 (wait_goes found.2 g)
find_goes old new (Is.Broken fault) found g = absurd found

fails_same : {old new : OriginConnection} {fault : OriginFault} → Fails old fault new
    → (new.ended ≡ old.ended) × (new.output.items ≡ old.output.items)
fails_same (inl breaks) = rw breaks.rest (refl, refl)
fails_same (inr cut) = rw (cut.3.rest, cut.2.rest) (refl, refl)

said : {limits : Limits} {p : Past} (old new : OriginConnection) (event : OriginEvent) (f : Option OriginFault)
    → old.fault ≡ f
    → SaysAt f old event new → RunAt limits old p → RunAt limits new (record p { now = tell event p.now })
said old new event (Some fault) is says r = rw (says.0, says.1) r
said old new event None is (inl found) r = run_of (find_goes old new event found (goes_of r is))
said old new event None is (inr failed) r = let same = fails_same failed.2 in
    rw (failed.3, failed.4, same.0, same.1)
    (record { client = r.client; unread = r.unread; goes = r.goes; left = λ none. absurd (cc) })

-- the client that begins a request
requests : (c : Client) (method : List ℕ) (headers : List Header) (line : Bool) (plan : Result Plan WriteError)
    → plan_refusal plan line headers ≡ None → let next = requesting c method headers plan in
    (next.limits ≡ c.limits) × (next.reading ≡ c.reading) × (next.writing ≡ Writes.Body (encoder_in plan))
    × (next.method ≡ method_kind method) × (next.keep_alive ≡ keeps_in plan)
requests c method headers line (Ok plan) accepted = (refl, refl, refl, refl, refl)
requests c method headers line (Err error) accepted = absurd (cc)

begun : {limits : Limits} {old new : OriginConnection} {p : Past} {method target : List ℕ} {headers : List Header}
    {size : BodySize} → Begins old method target headers size new → RunAt limits old p → RunAt limits new
    (record p { before = p.before ++ is_over p.now; now = Asked (asks method target headers size) [] })
begun {limits} {old} {new} {p} {method} {target} {headers} {size} b r =
    let g = goes_of r b.fit.whole in
    let plan : request_plan old.client method size headers ≡ plan_of (asks method target headers size) =
    cond-true _ _ _ (ap awaits_head b.fit.idle) in
    let next = begins p.now g b.fit.idle in
    let s = requests old.client method headers (is_request_line method target 1) _ (rw plan at b.accepted) in
    rw (b.rest, b.output, b.client, plan) (run_of (record {
      since = record {
        written = rw (append-nil (head_text (asks method target headers size))) (sym (append_assoc p.sent _ _)
            ∙ ap (λ (t : List ℕ). t ++ head_text (asks method target headers size)) next.1);
        start = old.input.items;
        kept = next.0;
      };
      limited = s.0 ∙ g.limited;
      told = λ more may. refl;
      at = (s.1 ∙ next.2, s.2, s.3, s.4);
    }))

new_run : {limits : Limits} {ended : Bool} {c : Client} {i o : List ℕ} {f : Option OriginFault} → ended ≡ false
    → c ≡ new_client limits → i ≡ [] → o ≡ [] → f ≡ None → Run limits ended c i o f no_past
new_run {limits} is_going is_new no_input no_output is_whole =
    let new : Run limits false (new_client limits) [] [] None no_past = run_of (record {
      since = record { written = refl; start = []; kept = λ more may. refl };
      limited = refl;
      told = refl;
      at = refl;
    }) in rw (is_going, is_new, no_input, no_output, is_whole) new

received : {limits : Limits} {old new : OriginConnection} {p : Past} {bytes : List ℕ} → old.ended ≡ false
    → Receives old bytes new → RunAt limits old p → RunAt limits new (record p { received = p.received ++ bytes })
received {limits} {old} {new} {p} {bytes} going r run =
    rw (r.rest, r.input) (run_grows bytes (λ more may ended. absurd (cc (going, ended))) run)

finished : {limits : Limits} {p : Past} (old new : OriginConnection) → Finishes old new → RunAt limits old p
    → RunAt limits new p
finished {limits} {p} old new is run = rw is (rw (append-nil p.received, append-nil old.input.items) at
    (run_grows [] (λ more may ended. may refl) run))

put : {limits : Limits} {p : Past} (old new : OriginConnection) (piece : List ℕ) → Puts old piece new
    → RunAt limits old p → RunAt limits new (record p { now = change (with_piece piece) p.now })
put {limits} {p} old new piece puts run = rw (puts.2.rest, puts.2.output, puts.2.client) (run_of (put_now
    (λ r. r.pieces ++ piece ∷ []) (λ r. r.trailers) _ _ (takes_data _ _ puts.1)
    (λ r is. put_at (head_text r) r.pieces (encoder_in (plan_of r)) _ r.trailers piece is puts.1)
    p.now (goes_of run puts.0)))

closed : {limits : Limits} {p : Past} (old new : OriginConnection) (trailers : List Header) → Ends old trailers new
    → RunAt limits old p → RunAt limits new (record p { now = change (with_trailers trailers) p.now })
closed {limits} {p} old new trailers ends run = rw (ends.2.rest, ends.2.output, ends.2.client) (run_of (put_now
    (λ r. r.pieces) (λ r. Some trailers) _ _ (takes_end _ _ ends.1)
    (λ r is. (refl, end_at (head_text r) r.pieces (encoder_in (plan_of r)) _ r.trailers trailers is ends.1))
    p.now (goes_of run ends.0)))

refused : {limits : Limits} {old new : OriginConnection} {p : Past} → PutsNothing old new → RunAt limits old p
    → RunAt limits new p
refused kept run = rw (kept.rest, kept.output) run

written : {limits : Limits} {old new : OriginConnection} {p : Past} {count : ℕ} → HandsOut old count new
    → RunAt limits old p → RunAt limits new (record p { sent = p.sent ++ take count old.output.items })
written {limits} {old} {new} {p} {count} out run =
    let g = run.goes in
    rw (out.rest, out.output) (record {
      client = run.client;
      unread = run.unread;
      goes = record {
        since = record {
          written = append_assoc p.sent (take count old.output.items) _
              ∙ ap (λ (t : List ℕ). p.sent ++ t) (take-append-drop count old.output.items) ∙ g.since.written;
          start = g.since.start;
          kept = g.since.kept;
        };
        limited = g.limited;
        told = g.told;
        at = g.at;
      };
      left = run.left;
    })

runs : {limits : Limits} {m : OriginConnection} {p : Past} → IsReached limits m p → RunAt limits m p
runs (Opened m new) = new_run new.ended new.client new.input new.output new.fault
runs (Received old new p bytes before going r) = received going r (runs before)
runs (Finished old new p before is) = finished old new is (runs before)
runs (Begun old new p method target headers size before b) = begun b (runs before)
runs (Put old new p piece before puts) = put old new piece puts (runs before)
runs (Closed old new p trailers before ends) = closed old new trailers ends (runs before)
runs (Refused old new p before kept) = refused kept (runs before)
runs (Written old new p count before within out) = written out (runs before)
runs (Said old new p event before says) = said old new event old.fault refl says (runs before)

pub exchanged : {limits : Limits} {m : OriginConnection} {p : Past} → IsReached limits m p → Exchanged limits m p
exchanged reached =
    let r = runs reached in
    record {
      written = r.goes.since.written;
      start = r.goes.since.start;
      before = r.goes.since.kept;
      unread = r.unread;
      now = rw r.goes.limited at r.goes.told;
      left = λ none. (r.left none).1;
    }

-- ---- what may be said next

-- what the reader of a message is at, by what was told last
abbrev ReadsAt : Now → Reading → Type 0
ReadsAt (Asked r interim) reading = reading ≡ Reads.Head
ReadsAt (Hears r interim response content) reading = (d : Decoder) × (reading ≡ Reads.Body d)
ReadsAt now reading = Unit {0}

reads_at : {k : Frame} {c : Client} {input : List ℕ} (now : Now) → Goes k c input now → ReadsAt now c.reading
reads_at Fresh g = tt
reads_at (Asked r interim) g = g.at.0
reads_at (Hears r interim response content) g = (g.told.decoder, g.at.0)
reads_at (Over e) g = tt

-- what is said is what comes next, unless it is a fault
found_at : (f : Option OriginFault) (old new : OriginConnection) (event : OriginEvent) → SaysAt f old event new
    → ((fault : OriginFault) → ¬ (event ≡ Is.Broken fault)) → (f ≡ None) × Finds old event new
found_at (Some fault) old new event says not = absurd (not fault says.0)
found_at None old new event (inl found) not = (refl, found)
found_at None old new event (inr failed) not = absurd (not failed.0 failed.3)

reads_when : {limits : Limits} {m : OriginConnection} {p : Past} (now : Now) → IsReached limits m p → m.fault ≡ None
    → p.now ≡ now → ReadsAt now m.client.reading
reads_when {limits} {m} {p} now reached none is =
    subst (λ (n : Now). ReadsAt n m.client.reading) is (reads_at p.now (goes_of (runs reached) none))

waits_due : (r : Reading) (c next : Client) (input rest : List ℕ) → c.reading ≡ r → WaitsAt r c input next rest
    → next.reading ≡ Reads.Body UntilClose → ¬ (r ≡ Reads.Head)
waits_due Reads.Head c next input rest is found until due = let reading = rw found.0 at until in absurd (cc)
waits_due r c next input rest is found until due = absurd (cc)

pub says_final : (old new : OriginConnection) (response : OriginResponse) → SaysAt old.fault old (Is.Head response) new
    → is_interim response.status ≡ false
says_final old new response says =
    let found = found_at old.fault old new (Is.Head response) says (λ fault is. absurd (cc)) in found.1.0

-- a second final response isn't told
pub heads_once : {limits : Limits} {old : OriginConnection} {p : Past} (new : OriginConnection) (r : Request)
    (interim : List OriginResponse) (response next : OriginResponse) (content : List ℕ) → IsReached limits old p
    → p.now ≡ Hears r interim response content → ¬ (SaysAt old.fault old (Is.Head next) new)
heads_once {limits} {old} {p} new r interim response next content reached is says =
    let found = found_at old.fault old new (Is.Head next) says (λ fault is. absurd (cc)) in
    let body = reads_when (Hears r interim response content) reached found.0 is in
    let clash : Reads.Body body.0 ≡ Reads.Head = sym body.1 ∙ found.1.2.due.0 in absurd (cc)

-- content isn't told before the head of a response, and nor is its end
pub content_late : {limits : Limits} {old : OriginConnection} {p : Past} (new : OriginConnection) (r : Request)
    (interim : List OriginResponse) (piece : List ℕ) → IsReached limits old p → p.now ≡ Asked r interim
    → ¬ (SaysAt old.fault old (Is.Content piece) new)
content_late {limits} {old} {p} new r interim piece reached is says =
    let found = found_at old.fault old new (Is.Content piece) says (λ fault is. absurd (cc)) in
    let due = reads_when (Asked r interim) reached found.0 is in
    let clash : Reads.Body found.1.decoder ≡ Reads.Head = sym found.1.reading ∙ due in absurd (cc)

end_found : (old new : OriginConnection) (trailers : Entries FieldValue) → Finds old (Is.End trailers) new
    → ¬ (old.client.reading ≡ Reads.Head)
end_found old new trailers (inl ends) due =
    let clash : Reads.Body ends.decoder ≡ Reads.Head = sym ends.reading ∙ due in absurd (cc)
end_found old new trailers (inr ends) due = waits_due
    old.client.reading old.client ends.1.client old.input.items ends.1.input.items refl ends.2.found ends.3.reading due

pub end_late : {limits : Limits} {old : OriginConnection} {p : Past}
    (new : OriginConnection) (r : Request) (interim : List OriginResponse) (trailers : Entries FieldValue)
    → IsReached limits old p → p.now ≡ Asked r interim → ¬ (SaysAt old.fault old (Is.End trailers) new)
end_late {limits} {old} {p} new r interim trailers reached is says =
    let found = found_at old.fault old new (Is.End trailers) says (λ fault is. absurd (cc)) in
    end_found old new trailers found.1 (reads_when (Asked r interim) reached found.0 is)

-- an interim response isn't told after a final one, and nor is one that ends HTTP
pub interim_late : {limits : Limits} {old : OriginConnection} {p : Past} (new : OriginConnection) (r : Request)
    (interim : List OriginResponse) (response next : OriginResponse) (content : List ℕ) → IsReached limits old p
    → p.now ≡ Hears r interim response content → ¬ (SaysAt old.fault old (Is.Interim next) new)
interim_late {limits} {old} {p} new r interim response next content reached is says =
    let found = found_at old.fault old new (Is.Interim next) says (λ fault is. absurd (cc)) in
    let body = reads_when (Hears r interim response content) reached found.0 is in
    let clash : Reads.Body body.0 ≡ Reads.Head = sym body.1 ∙ found.1.1.due.0 in absurd (cc)

pub switch_late : {limits : Limits} {old : OriginConnection} {p : Past} (new : OriginConnection) (r : Request)
    (interim : List OriginResponse) (response next : OriginResponse) (content : List ℕ) → IsReached limits old p
    → p.now ≡ Hears r interim response content → ¬ (SaysAt old.fault old (Is.Switched next) new)
switch_late {limits} {old} {p} new r interim response next content reached is says =
    let found = found_at old.fault old new (Is.Switched next) says (λ fault is. absurd (cc)) in
    let body = reads_when (Hears r interim response content) reached found.0 is in
    let clash : Reads.Body body.0 ≡ Reads.Head = sym body.1 ∙ found.1.2.due.0 in absurd (cc)

-- ---- what is put next

-- how far the bytes of the request are put: in no other state is content or an end taken
abbrev pub WritesAt : Now → Writing → Type 0
WritesAt (Asked r interim) w = w ≡ writing_of r
WritesAt (Hears r interim response content) w = w ≡ writing_of r
WritesAt now w = (e : Encoder) → ¬ (w ≡ Writes.Body e)

writes_at : {k : Frame} {c : Client} {input : List ℕ} (now : Now) → Goes k c input now → WritesAt now c.writing
writes_at Fresh g = λ e is. rests_open _ e _ is g.at
writes_at (Asked r interim) g = g.at.1
writes_at (Hears r interim response content) g = g.at.1
writes_at (Over e) g = λ f is. rests_open _ f _ is g.at.0

pub writes_now : {limits : Limits} {m : OriginConnection} {p : Past} → IsReached limits m p → m.fault ≡ None
    → WritesAt p.now m.client.writing
writes_now {p = p} reached none = writes_at p.now (goes_of (runs reached) none)
