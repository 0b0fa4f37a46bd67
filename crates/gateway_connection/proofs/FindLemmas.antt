-- What a read of `http1` finds.
use Rattle.std.proofs.Common.{◌≡◌, ◌≢◌, ℕ, ◌<◌, ◌≤◌, ◌⊎◌, inl, inr, Bool, true, false, List, [], ◌∷◌, ◌++◌, length, ◌-◌}
use Rattle.std.proofs.Common.{drop, sym, refl, ap, ◌∙◌, subst, append-nil, IsFalse, arith, ltb}
use Rattle.{std.proofs.lemmas.Bool.Decides.nat_tests, bytes.specs.Filled.Filled, httparse.specs.Grammar.ResponseHead}
use Rattle.httparse.specs.{Grammar.status_code, Spans.span_bytes, declared.spans.HeaderSpan.HeaderSpan}
use Rattle.httparse.{specs.declared.spans.{ResponseSpans.ResponseSpans, Span.Span}, proofs.RunLemmas.length-slice_range}
use Rattle.http1.specs.{Body.body_of, Fields.Header, Message.known_of, ServerTrace.headers_at, Client.ClientReads}
use Rattle.http1.specs.Client.{ReadsAt, ReadsFirst, ReadsHead, TakesHead, after_head, after_piece, is_interim}
use Rattle.http1.specs.{Client.{reading_body, switches, upgraded_client}, Conn.{ReadsPiece, awaits_head, unread_size}}
use Rattle.http1.specs.{Decoder.{Completes, Continues, Ends, decoder_for}, declared.client.Client.Client}
use Rattle.http1.specs.declared.conn.{BodySize.BodySize, Event.{Event, TheVariants.{NeedMore, Head, Informational}}}
use Rattle.http1.specs.declared.conn.{Event.TheVariants.{Data, End, Paused, Upgraded}, Limits.Limits, Progress.Progress}
use Rattle.http1.specs.declared.{conn.Reading.Reading, decode.Decoder.Decoder, framing.Framing.Framing}
use Rattle.{http1.specs.declared.framing.MethodKind.MethodKind, gateway_connection.specs.Content.{HasNoMap, map_of}}
use Rattle.gateway_connection.specs.{Responses.{IsFieldsFault, IsUnder}, declared.event.OriginFault.OriginFault}
use Rattle.gateway_connection.specs.declared.event.OriginResponse.{OriginResponse}
use Rattle.gateway_connection.specs.{declared.origin.OriginConnection.OriginConnection, Steps.{Fails, Finds}}
use Rattle.gateway_connection.specs.Steps.{HasInvalidFields, IsDue, IsFault, TakesPiece, TakesResponse, Waits, WaitsAt}
use Rattle.http1.specs.declared.conn.BodySize.TheVariants as Size
use Rattle.http1.specs.declared.conn.Event.TheVariants as Found
use Rattle.http1.specs.declared.conn.Reading.TheVariants as Reads
use Rattle.http1.specs.declared.framing.Framing.TheVariants as Framed
use Rattle.http1.specs.declared.framing.MethodKind.TheVariants as Method
use Rattle.gateway_connection.specs.declared.event.OriginFault.TheVariants as Faults
use Rattle.gateway_connection.specs.declared.event.OriginEvent.TheVariants as Is
use Rattle.gateway_connection.specs.declared.event.OriginEvent as Saying

abbrev pub Said : Type 0
Said = Saying.OriginEvent

abbrev pub Spans : Type 0
Spans = ResponseSpans

-- what a read says by its event: where it stands, and what was found there
module _ (c new : Client) (input : List ℕ) (spans : List HeaderSpan) where
  abbrev AtHead : ℕ → Event Spans → Type 0
  AtHead len e = IsDue c × ReadsHead c input spans new len e

  abbrev InBody : ℕ → Event Spans → Type 0
  InBody len e = (d : Decoder) × (next : Reading) × (c.reading ≡ Reads.Body d) × ReadsPiece d input spans next len e
      × (new ≡ after_piece c next)

  abbrev Tells : ℕ → Event Spans → Type 0
  Tells len (Found.Head r) = AtHead len (Found.Head r)
  Tells len (Found.Informational r) = AtHead len (Found.Informational r)
  Tells len (Found.Data s) = InBody len (Found.Data s)
  Tells len (Found.End count) = InBody len (Found.End count)
  Tells len Found.Upgraded = Unit {0}
  Tells len Found.Closed = Unit {0}
  Tells len e = WaitsAt c.reading c input new (drop len input)

  tells_head : (len : ℕ) (e : Event Spans) → c.reading ≡ Reads.Head → awaits_head c.writing ≡ false
      → ReadsHead c input spans new len e → Tells len e
  tells_head len Found.NeedMore is due found = subst (λ (r : Reading). WaitsAt r c input new (drop len input))
      (sym is) (found.1, ap (λ (n : ℕ). drop n input) found.0, inr (due, found.2, found.4))
  tells_head len (Found.Head r) is due found = ((is, due), found)
  tells_head len (Found.Informational r) is due found = ((is, due), found)
  tells_head len e is due found = absurd found

  tells_body : (d : Decoder) (next : Reading) (len : ℕ) (e : Event Spans) → c.reading ≡ Reads.Body d
      → ReadsPiece d input spans next len e → new ≡ after_piece c next → Tells len e
  tells_body d next len Found.NeedMore is found goes = subst (λ (r : Reading). WaitsAt r c input new (drop len input))
      (sym is) (found.0, len, found.2, refl, goes ∙ ap (after_piece c) found.1)
  tells_body d next len (Found.Data s) is found goes = (d, next, is, found, goes)
  tells_body d next len (Found.End count) is found goes = (d, next, is, found, goes)
  tells_body d next len e is found goes = absurd found

  tells_first : (idle : Bool) (read : Progress Spans) → c.reading ≡ Reads.Head → awaits_head c.writing ≡ idle
      → ReadsFirst idle c input spans new read → Tells read.consumed read.event
  tells_first true read is idle found = subst (λ (p : Progress Spans). Tells p.consumed p.event) (sym found.1)
      (subst (λ (r : Reading). WaitsAt r c input new input) (sym is)
      (found.2, refl, inl (idle, no_items input found.0)))
    where
      no_items : (xs : List ℕ) → length xs ≡ 0 → xs ≡ []
      no_items [] is = refl
      no_items (x ∷ xs) is = absurd (omega arith)
  tells_first false read is due found = tells_head read.consumed read.event is due found

  tells_at : (r : Reading) (read : Progress Spans) → c.reading ≡ r → ReadsAt r c input spans new read
      → Tells read.consumed read.event
  tells_at Reads.Head read is found = tells_first (awaits_head c.writing) read is refl found
  tells_at (Reads.Body d) read is found = tells_body d found.0 read.consumed read.event is found.1 found.2
  tells_at Reads.Done read is found = subst (λ (p : Progress Spans). Tells p.consumed p.event) (sym found.0) tt
  tells_at Reads.Upgraded read is found = subst (λ (p : Progress Spans). Tells p.consumed p.event) (sym found.0) tt
  tells_at Reads.Closed read is found = subst (λ (p : Progress Spans). Tells p.consumed p.event) (sym found.0) tt
  tells_at (Reads.Failed e) read is found = absurd found

  pub tells : (read : Progress Spans) → ClientReads c input spans new read → (e : Event Spans) → read.event ≡ e
      → Tells read.consumed e
  tells read found e is = subst (λ (x : Event Spans). Tells read.consumed x) is (tells_at c.reading read refl found)

-- ---- heads

-- the parts of the head that was taken
pub takes_response : (old new : OriginConnection) (spans : List HeaderSpan) (len : ℕ) (r : ResponseSpans)
    (response : OriginResponse) (seen : List ℕ) → seen ≡ old.input.items → IsDue old.client → TakesHead old.client seen
    spans new.client len r → IsUnder old.input.items spans r response → new.input.items ≡ drop r.len old.input.items
    → new ≡ record old { client = new.client; input = new.input; silent = false } → TakesResponse old response new
takes_response old new spans len r response seen same due head u left rest =
    let t : TakesHead old.client old.input.items spans new.client len r =
    subst (λ (s : List ℕ). TakesHead old.client s spans new.client len r) same head in
    record {
      due = due;
      head = t.head;
      framing = t.framing;
      accepts = rw (left ∙ ap (λ (n : ℕ). drop n old.input.items) (sym t.consumed)) t.accepts;
      expected = t.expected;
      parts = λ i. record {
        minor = (u.minor ∙ t.covered.version) i;
        status = (u.status ∙ t.covered.code) i;
        reason = (u.reason ∙ t.covered.reason) i;
        fields = (u.fields ∙ ap map_of t.covered.fields) i;
      };
      client = t.next;
      rest = rest;
    }

-- the status of the spans is that of the response
pub interim_of : (b : Bool) (input : List ℕ) (spans : List HeaderSpan) (r : ResponseSpans) (response : OriginResponse)
    → IsUnder input spans r response → is_interim r.code ≡ b → is_interim response.status ≡ b
interim_of b input spans r response u is = ap is_interim u.status ∙ is

body_size : (limits : Limits) (framing : Framing) → unread_size (Reads.Body (decoder_for limits framing)) ≢ Size.Empty
body_size limits Framed.NoBody is = absurd (cc)
body_size limits framing is = absurd (cc)

final_high : (c : Client) (method : MethodKind) (status : ℕ) → is_interim status ≡ false
    → switches (record c { method = method }) status ≡ false → ltb status 200 ≡ false
final_high c Method.Head status is stays = grind (arith, nat_tests)
final_high c method status is stays = grind (arith, nat_tests)

pub final_stays : (c : Client) (h : ResponseHead) (framing : Framing) → is_interim (status_code h) ≡ false
    → switches c (status_code h) ≡ false → after_head c h framing ≡ reading_body c h.minor (known_of h.fields) framing
final_stays c h framing final stays = rw (stays, final_high c c.method (status_code h) final stays)

-- ---- steps

-- what is said of a final head, by what is unread after it
module _ (old new : OriginConnection) (spans : List HeaderSpan) (len : ℕ) (r : ResponseSpans)
    (response : OriginResponse) (seen : List ℕ) (same : seen ≡ old.input.items) (due : IsDue old.client)
    (head : IsFalse (is_interim r.code) × TakesHead old.client seen spans new.client len r)
    (u : IsUnder old.input.items spans r response) (left : new.input.items ≡ drop r.len old.input.items)
    (rest : new ≡ record old { client = new.client; input = new.input; silent = false }) (size : BodySize)
    (sized : size ≡ unread_size new.client.reading) where
  pub head_found : (event : Said) → (size ≡ Size.Empty → event ≡ Is.Switched response)
      → (size ≢ Size.Empty → event ≡ Is.Head response) → Finds old event new
  head_found event switched stays = by_switch (switches old.client response.status) refl
    where
      t : TakesResponse old response new
      t = takes_response old new spans len r response seen same due head.1 u left rest

      status : status_code t.head ≡ response.status
      status = sym (ap (λ (x : OriginResponse). x.status) t.parts)

      final : is_interim response.status ≡ false
      final = interim_of false old.input.items spans r response u head.0

      by_switch : (b : Bool) → switches old.client response.status ≡ b → Finds old event new
      by_switch true is = let goes : after_head
          old.client t.head t.framing ≡ upgraded_client old.client = rw (ap (switches old.client) status ∙ is) in
          let empty = sized ∙ ap (λ (k : Client). unread_size k.reading) (t.client ∙ goes) in
          subst (λ (e : Said). Finds old e new) (sym (switched empty)) (final, is, t)
      by_switch false is = let goes = t.client ∙ final_stays old.client t.head t.framing
          (ap is_interim status ∙ final) (ap (switches old.client) status ∙ is) in
          let other : size ≢ Size.Empty = λ empty. body_size old.client.limits t.framing
          (sym (ap (λ (k : Client). unread_size k.reading) goes) ∙ sym sized ∙ empty) in
          subst (λ (e : Said). Finds old e new) (sym (stays other)) (final, is, t)

-- ---- content

pub takes_piece : (old new : OriginConnection) (len : ℕ) (s : Span) (piece seen : List ℕ) (d : Decoder) (next : Reading)
    → seen ≡ old.input.items → old.client.reading ≡ Reads.Body d
    → ReadsPiece {H = ResponseSpans} d seen [] next len (Found.Data s) → new.client ≡ after_piece old.client next
    → piece ≡ span_bytes old.input.items s → new.input.items ≡ drop s.end old.input.items
    → new ≡ record old { client = new.client; input = new.input } → TakesPiece old piece new
takes_piece old new len s piece seen d next same reading found goes bytes left rest =
    let continues : Continues d old.input.items found.0 s.end piece =
    subst (λ (t : List ℕ). Continues d old.input.items found.0 s.end t) (sym bytes)
    (subst (λ (t : List ℕ). Continues d t found.0 s.end (span_bytes t s)) same found.4) in
    record {
      decoder = d;
      next = found.0;
      len = s.end;
      reading = reading;
      continues = continues;
      some = subst (λ (t : List ℕ). 0 < length t) (sym bytes)
          (spans_some old.input.items s found.3 (subst (λ (t : List ℕ). s.end ≤ length t) same found.4.within));
      input = left;
      client = goes ∙ ap (after_piece old.client) found.1;
      rest = rest;
    }
  where
    spans_some : (xs : List ℕ) (s : Span) → s.start < s.end → s.end ≤ length xs → 0 < length (span_bytes xs s)
    spans_some xs s some within = let size : length
        (span_bytes xs s) ≡ s.end - s.start = length-slice_range xs s.start s.end (omega arith) within in omega arith

-- ---- faults

pub breaks : (old : OriginConnection) (next : Client) (rest : Filled) (fault : OriginFault) → IsFault old fault
    → Fails old fault (record old { client = next; input = rest })
breaks old next rest fault because = inl (record { because = because; rest = refl })

pub fields_fault : (m : OriginConnection) (fields : List Header) (fault : OriginFault) → IsFieldsFault fields fault
    → (HasNoMap fields → HasInvalidFields m.client m.input.items) → IsFault m fault
fields_fault m fields Faults.InvalidFields is invalid = invalid is
fields_fault m fields Faults.OutOfMemory is invalid = tt
fields_fault m fields fault is invalid = absurd is

pub head_fault : (m : OriginConnection) (new : Client) (spans : List HeaderSpan) (len : ℕ) (r : ResponseSpans)
    (seen : List ℕ) (fault : OriginFault) → seen ≡ m.input.items → TakesHead m.client seen spans new len r
    → IsFieldsFault (headers_at m.input.items spans r.headers) fault → IsFault m fault
head_fault m new spans len r seen fault same head why =
    let t : TakesHead m.client m.input.items spans new len r =
    subst (λ (s : List ℕ). TakesHead m.client s spans new len r) same head in
    fields_fault m (headers_at m.input.items spans r.headers) fault why (λ none. inl (
      t.head,
      t.framing,
      _,
      t.accepts,
      subst HasNoMap t.covered.fields none,
    ))

pub trailers_fault : (m : OriginConnection) (spans : List HeaderSpan) (next : Reading) (len count : ℕ) (seen : List ℕ)
    (fault : OriginFault) (d : Decoder) → seen ≡ m.input.items → m.client.reading ≡ Reads.Body d
    → ReadsPiece {H = ResponseSpans} d seen spans next len (Found.End count)
    → IsFieldsFault (headers_at m.input.items spans count) fault → IsFault m fault
trailers_fault m spans next len count seen fault d same reading found why =
    let e : Ends d m.input.items spans len count = subst (λ (s : List ℕ). Ends d s spans len count) same found.1 in
    fields_fault m (headers_at m.input.items spans count) fault why (λ none. inr (
      d,
      body_of [] e.trailers,
      _,
      reading,
      subst (λ (s : List ℕ). Completes d s (body_of [] e.trailers) (drop len m.input.items ++ []))
          (append-nil m.input.items) (e.completes []),
      subst HasNoMap e.covered none,
    ))

-- ---- nothing is found

pub still : (old new : OriginConnection) (spans : List HeaderSpan) (read : Progress ResponseSpans) (seen : List ℕ)
    → seen ≡ old.input.items → ClientReads old.client seen spans new.client read
    → (read.event ≡ Found.NeedMore) ⊎ (read.event ≡ Found.Paused) → new.input.items ≡ drop read.consumed old.input.items
    → new ≡ record old { client = new.client; input = new.input } → Waits old new
still old new spans read seen same found is left rest = record {
  rest = rest;
  found = subst (λ (i : List ℕ). WaitsAt old.client.reading old.client old.input.items new.client i) (sym left)
      (waits_found (subst (λ (i : List ℕ). ClientReads old.client i spans new.client read) same found) is);
}
  where
    waits_found : ClientReads old.client old.input.items spans new.client read
        → (read.event ≡ Found.NeedMore) ⊎ (read.event ≡ Found.Paused)
        → WaitsAt old.client.reading old.client old.input.items new.client (drop read.consumed old.input.items)
    waits_found found (inl is) = tells old.client new.client old.input.items spans read found Found.NeedMore is
    waits_found found (inr is) = tells old.client new.client old.input.items spans read found Found.Paused is
