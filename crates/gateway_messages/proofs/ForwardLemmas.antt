-- What is forwarded, name by name.
use Rattle.std.proofs.Common.{arith, ◌≡◌, ◌≢◌, ℕ, Bool, true, false, ◌&&◌, List, [], ◌∷◌, ◌++◌, refl, sym, ◌∙◌, ap}
use Rattle.std.proofs.{Common.{lit<, map, filter, Option, Some, None}, Math.Bool.or-true, lemmas.Bool.or_parts}
use Rattle.std.{proofs.lemmas.List.append-nil, specs.Prelude.{All, bytes_eq, codes, decimal, if◌then◌else◌, is_some}}
use Rattle.{std.specs.{Prelude.{option_map, option_to_list}, List.list_any}, http_header.specs.FieldValue.FieldValue}
use Rattle.{http_header.specs.HeaderMap.{Entries, IsUnique, pairs}, headers.specs.{Date.fixdate, LineMap.lines_at}}
use Rattle.{headers.specs.Lines.Line, rfc_fields.specs.Scan.Member, gateway_messages.specs.FieldLines.{Field, field_of}}
use Rattle.gateway_messages.specs.{FieldLines.lines_under, Forwarding.{Forwards, IsEndToEnd, IsHopByHop, Message}}
use Rattle.gateway_messages.specs.Forwarding.{field_if, framing_names, goes_on, is_replaced, is_rewritten, own_fields}
use Rattle.gateway_messages.specs.{Forwarding.{own_names, replaced}, Framing.{coding_line, length_line}}
use Rattle.gateway_messages.specs.{Spellings.{has_mark, is_misspelt}, Via.via_line, declared.gateway.Gateway.Gateway}
use Rattle.gateway_messages.specs.HopByHop.{connection_options, is_hop_by_hop, is_known, is_named, names_protected}
use Rattle.gateway_messages.{specs.HopByHop.protected_fields, proofs.ReceivedLemmas.{differ, lines_under-append}}
use Rattle.gateway_messages.proofs.{ReceivedLemmas.{lines_under-filter, received_lines}, SpellingLemmas.well_spelt}

-- ---- what the gateway writes

if_own : (own name : List ℕ) (line : Option Line) → bytes_eq own name ≡ true
    → lines_under (field_if own line) name ≡ option_to_list line
if_own own name None e = refl
if_own own name (Some line) e = rw e refl

if_other : (own name : List ℕ) (line : Option Line) → bytes_eq own name ≡ false
    → lines_under (field_if own line) name ≡ []
if_other own name None e = refl
if_other own name (Some line) e = rw e refl

via_other : (line : Line) (name : List ℕ) → bytes_eq (codes "via") name ≡ false
    → lines_under ((codes "via", line) ∷ []) name ≡ []
via_other line name e = rw e refl

join : {A : Type 0} (a b c d : List A) → a ≡ c → b ≡ d → a ++ b ≡ c ++ d
join a b c d e f = rw (e, f) refl

-- the field lines of a name among those that the gateway writes, part by part
own_at : (pseudonym : List ℕ) (message : Message) (name : List ℕ) (via host date hops len coding : List Line)
    → lines_under ((codes "via", via_line message.protocol pseudonym) ∷ []) name ≡ via
    → lines_under (field_if (codes "host") message.host) name ≡ host
    → lines_under (field_if (codes "date") (option_map fixdate message.date)) name ≡ date
    → lines_under (field_if (codes "max-forwards") (option_map decimal message.hops)) name ≡ hops
    → lines_under (field_if (codes "content-length") (length_line message.framing)) name ≡ len
    → lines_under (field_if (codes "transfer-encoding") (coding_line message.framing)) name ≡ coding
    → lines_under (own_fields pseudonym message) name ≡ via ++ (host ++ (date ++ (hops ++ (len ++ coding))))
own_at pseudonym message name via host date hops len coding ev eh ed em el ec = grind (arith, lines_under-append, join)

own_none : (pseudonym : List ℕ) (message : Message) (name : List ℕ) → bytes_eq (codes "via") name ≡ false
    → bytes_eq (codes "host") name ≡ false → bytes_eq (codes "date") name ≡ false
    → bytes_eq (codes "max-forwards") name ≡ false → bytes_eq (codes "content-length") name ≡ false
    → bytes_eq (codes "transfer-encoding") name ≡ false → lines_under (own_fields pseudonym message) name ≡ []
own_none pseudonym message name v h d m l c = grind (arith, own_at, via_other, if_other)

own_via : (pseudonym : List ℕ) (message : Message)
    → lines_under (own_fields pseudonym message) (codes "via") ≡ via_line message.protocol pseudonym ∷ []
own_via pseudonym message = grind (arith, own_at, if_other)

own_host : (pseudonym : List ℕ) (message : Message) → lines_under (own_fields pseudonym message) (codes "host")
    ≡ option_to_list message.host
own_host pseudonym message = grind (arith, own_at, option_to_list, via_other, if_own, if_other, append-nil)

own_date : (pseudonym : List ℕ) (message : Message) → lines_under (own_fields pseudonym message) (codes "date")
    ≡ option_to_list (option_map fixdate message.date)
own_date pseudonym message = grind (arith, own_at, option_to_list, via_other, if_other, if_own, append-nil)

own_hops : (pseudonym : List ℕ) (message : Message) → lines_under (own_fields pseudonym message) (codes "max-forwards")
    ≡ option_to_list (option_map decimal message.hops)
own_hops pseudonym message = grind (arith, own_at, option_to_list, via_other, if_other, if_own, append-nil)

own_length : (pseudonym : List ℕ) (message : Message)
    → lines_under (own_fields pseudonym message) (codes "content-length") ≡ option_to_list (length_line message.framing)
own_length pseudonym message = grind (arith, own_at, option_to_list, via_other, if_other, if_own, append-nil)

own_coding : (pseudonym : List ℕ) (message : Message)
    → lines_under (own_fields pseudonym message) (codes "transfer-encoding")
    ≡ option_to_list (coding_line message.framing)
own_coding pseudonym message = grind (arith, own_at, option_to_list, via_other, if_other, if_own)

-- ---- which names go on

pub never : (counts : Bool) → (counts && false) ≡ false
never true = refl
never false = refl

goes : (gateway : Gateway) (message : Message) (options : List Member) (name : List ℕ)
    → is_hop_by_hop gateway.consumes_credentials options name ≡ false → is_misspelt gateway name ≡ false
    → list_any (bytes_eq name) framing_names ≡ false → is_replaced message.host (codes "host") name ≡ false
    → is_replaced message.date (codes "date") name ≡ false
    → is_replaced message.hops (codes "max-forwards") name ≡ false → goes_on gateway message options name ≡ true
unfolding goes_on
goes gateway message options name e s f h d m = rw (e, s, f, h, d, m) refl

no_framing : (name : List ℕ) → name ≢ codes "content-length" → name ≢ codes "transfer-encoding"
    → list_any (bytes_eq name) framing_names ≡ false
no_framing name a b = rw (differ name _ a) (rw (differ name _ b) refl)

stops : (gateway : Gateway) (message : Message) (options : List Member) (name : List ℕ)
    → is_hop_by_hop gateway.consumes_credentials options name ≡ true → goes_on gateway message options name ≡ false
unfolding goes_on
stops gateway message options name e = rw e refl

-- a field that is written anew doesn't go on, whatever kind it is
anew : (gateway : Gateway) (message : Message) (options : List Member) (name : List ℕ)
    → is_rewritten message name ≡ true → goes_on gateway message options name ≡ false
unfolding goes_on
anew gateway message options name e = grind (arith, or-true, gateway)

dropped : (gateway : Gateway) (message : Message) (options : List Member) (name : List ℕ)
    → is_misspelt gateway name ≡ true → goes_on gateway message options name ≡ false
unfolding goes_on
dropped gateway message options name e = grind (arith, or-true, gateway)

-- names that no known field has
unknown : (consumes : Bool) (name : List ℕ) → is_known false name ≡ false → is_known true name ≡ false
    → is_known consumes name ≡ false
unknown true name f t = t
unknown false name f t = f

module _ (further : List (List ℕ)) (options : List Member) (unprotected : names_protected further options ≡ false) where
  abbrev named : List ℕ → Bool
  named name = is_named options name

  always : list_any named protected_fields ≡ false
  always = (or_parts (list_any named protected_fields) _ unprotected).0

  after_host : list_any named (
      codes "content-length" ∷ codes "transfer-encoding" ∷ codes "via" ∷ codes "max-forwards" ∷ codes "date"
      ∷ codes "cache-control" ∷ codes "authorization" ∷ codes "cookie" ∷ codes "set-cookie" ∷ []) ≡ false
  after_host = (or_parts (named (codes "host")) _ always).1

  after_coding : list_any named (
      codes "via" ∷ codes "max-forwards" ∷ codes "date" ∷ codes "cache-control" ∷ codes "authorization"
      ∷ codes "cookie" ∷ codes "set-cookie" ∷ []) ≡ false
  after_coding = grind (arith, or_parts, after_host)

  host_unnamed : named (codes "host") ≡ false
  host_unnamed = (or_parts (named (codes "host")) _ always).0

  length_unnamed : named (codes "content-length") ≡ false
  length_unnamed = (or_parts (named (codes "content-length")) _ after_host).0

  via_unnamed : named (codes "via") ≡ false
  via_unnamed = (or_parts (named (codes "via")) _ after_coding).0

  after_via : list_any named (
      codes "max-forwards" ∷ codes "date" ∷ codes "cache-control" ∷ codes "authorization" ∷ codes "cookie"
      ∷ codes "set-cookie" ∷ []) ≡ false
  after_via = (or_parts (named (codes "via")) _ after_coding).1

  after_hops : list_any named (
      codes "date" ∷ codes "cache-control" ∷ codes "authorization" ∷ codes "cookie" ∷ codes "set-cookie" ∷ []) ≡ false
  after_hops = (or_parts (named (codes "max-forwards")) _ after_via).1

  hops_unnamed : named (codes "max-forwards") ≡ false
  hops_unnamed = (or_parts (named (codes "max-forwards")) _ after_via).0

  date_unnamed : named (codes "date") ≡ false
  date_unnamed = (or_parts (named (codes "date")) _ after_hops).0

  end_to_end_of : (consumes : Bool) (name : List ℕ) → is_known false name ≡ false → is_known true name ≡ false
      → is_named options name ≡ false → is_hop_by_hop consumes options name ≡ false
  end_to_end_of consumes name f t n = rw (unknown consumes name f t) n

  pub via_end_to_end : (consumes : Bool) → is_hop_by_hop consumes options (codes "via") ≡ false
  via_end_to_end consumes = end_to_end_of consumes (codes "via") refl refl via_unnamed

  pub host_end_to_end : (consumes : Bool) → is_hop_by_hop consumes options (codes "host") ≡ false
  host_end_to_end consumes = end_to_end_of consumes (codes "host") refl refl host_unnamed

  pub date_end_to_end : (consumes : Bool) → is_hop_by_hop consumes options (codes "date") ≡ false
  date_end_to_end consumes = end_to_end_of consumes (codes "date") refl refl date_unnamed

  pub hops_end_to_end : (consumes : Bool) → is_hop_by_hop consumes options (codes "max-forwards") ≡ false
  hops_end_to_end consumes = end_to_end_of consumes (codes "max-forwards") refl refl hops_unnamed

  pub length_end_to_end : (consumes : Bool) → is_hop_by_hop consumes options (codes "content-length") ≡ false
  length_end_to_end consumes = end_to_end_of consumes (codes "content-length") refl refl length_unnamed

-- ---- all together

module _ (gateway : Gateway) (message : Message) (m : Entries FieldValue) (unique : IsUnique m)
    (unprotected : names_protected gateway.protected.items (connection_options (lines_at m)) ≡ false) where
  abbrev options : List Member
  options = connection_options (lines_at m)

  abbrev consumes : Bool
  consumes = gateway.consumes_credentials

  abbrev further : List (List ℕ)
  further = gateway.protected.items

  abbrev going : List ℕ → Bool
  going name = goes_on gateway message (connection_options (lines_at m)) name

  abbrev own : List Field
  own = own_fields gateway.pseudonym message

  abbrev sent : List Field
  sent = filter (λ field. going field.0) (map field_of (pairs m)) ++ own

  by_name : (name : List ℕ)
      → lines_under sent name ≡ (if going name then lines_at m name else []) ++ lines_under own name
  by_name name = lines_under-append (filter (λ field. going field.0) (map field_of (pairs m))) own name
      ∙ ap (λ lines. lines ++ lines_under own name) (lines_under-filter going (map field_of (pairs m)) name
      ∙ ap (λ lines. if going name then lines else []) (received_lines m name unique))

  kept : (name : List ℕ) → going name ≡ true → lines_under sent name ≡ lines_at m name ++ lines_under own name
  kept name e = by_name name ∙ rw e refl

  left_out : (name : List ℕ) → going name ≡ false → lines_under sent name ≡ lines_under own name
  left_out name e = by_name name ∙ rw e refl

  sent_end_to_end : (name : List ℕ) → IsEndToEnd gateway (lines_at m) name → is_misspelt gateway name ≡ false
      → All (λ own. own ≢ name) own_names → lines_under sent name ≡ lines_at m name
  sent_end_to_end name e s others = let v = differ _ _ (others 0 [] (lit< tt)) in
      let h = differ _ _ (others 1 [] (lit< tt)) in
      let d = differ _ _ (others 2 [] (lit< tt)) in
      let n = differ _ _ (others 3 [] (lit< tt)) in
      let l = differ _ _ (others 4 [] (lit< tt)) in
      let c = differ _ _ (others 5 [] (lit< tt)) in
      let h' = differ _ _ (λ same. others 1 [] (lit< tt) (sym same)) in
      let d' = differ _ _ (λ same. others 2 [] (lit< tt) (sym same)) in
      let n' = differ _ _ (λ same. others 3 [] (lit< tt) (sym same)) in
      let f = no_framing _ (λ same. others 4 [] (lit< tt) (sym same)) (λ same. others 5 [] (lit< tt) (sym same)) in
      let g = goes gateway message options name e s f (rw h' (never (is_some message.host)))
      (rw d' (never (is_some message.date))) (rw n' (never (is_some message.hops))) in
      kept name g ∙ rw (own_none _ _ _ v h d n l c) (append-nil (lines_at m name))

  apart : (fixed name : List ℕ) → is_hop_by_hop gateway.consumes_credentials
      (connection_options (lines_at m)) fixed ≡ false → IsHopByHop gateway (lines_at m) name → fixed ≢ name
  apart fixed name f t same = grind (arith, gateway)

  sent_hop_by_hop : (name : List ℕ) → IsHopByHop gateway (lines_at m) name → name ≢ codes "transfer-encoding"
      → lines_under sent name ≡ []
  sent_hop_by_hop name e n =
      let v = differ (codes "via") name
      (apart (codes "via") name (via_end_to_end further options unprotected consumes) e) in
      let o = differ (codes "host") name
      (apart (codes "host") name (host_end_to_end further options unprotected consumes) e) in
      let d = differ (codes "date") name
      (apart (codes "date") name (date_end_to_end further options unprotected consumes) e) in
      let h = differ (codes "max-forwards") name
      (apart (codes "max-forwards") name (hops_end_to_end further options unprotected consumes) e) in
      let l = differ (codes "content-length") name
      (apart (codes "content-length") name (length_end_to_end further options unprotected consumes) e) in
      let c = differ (codes "transfer-encoding") name (λ same. n (sym same)) in
      left_out name (stops gateway message options name e) ∙ own_none gateway.pseudonym message name v o d h l c

  differently : (own name : List ℕ) → has_mark own ≡ false → is_misspelt gateway name ≡ true → bytes_eq own name ≡ false
  differently own name e s = grind (arith, differ, gateway, well_spelt)

  sent_misspelt : (name : List ℕ) → is_misspelt gateway name ≡ true → lines_under sent name ≡ []
  sent_misspelt name s = left_out name (dropped gateway message options name s)
      ∙ own_none gateway.pseudonym message name (differently (codes "via") name refl s)
      (differently (codes "host") name refl s) (differently (codes "date") name refl s)
      (differently (codes "max-forwards") name refl s) (differently (codes "content-length") name refl s)
      (differently (codes "transfer-encoding") name refl s)

  sent_via : lines_under sent (codes "via")
      ≡ lines_at m (codes "via") ++ via_line message.protocol gateway.pseudonym ∷ []
  sent_via = grind (arith, kept, goes, gateway, via_end_to_end, well_spelt, never, is_some, own_via)

  sent_length : lines_under sent (codes "content-length") ≡ option_to_list (length_line message.framing)
  sent_length = grind (arith, left_out, anew, gateway, own_length)

  sent_coding : lines_under sent (codes "transfer-encoding") ≡ option_to_list (coding_line message.framing)
  sent_coding = grind (arith, left_out, anew, gateway, own_coding)

  sent_host : lines_under sent (codes "host") ≡ replaced message.host (lines_at m (codes "host"))
  sent_host = by message.host refl
    where
      by : (o : Option Line) → message.host ≡ o
          → lines_under sent (codes "host") ≡ replaced message.host (lines_at m (codes "host"))
      by None e = kept (codes "host") (
          goes gateway message options (codes "host") (host_end_to_end further options unprotected consumes)
          (well_spelt gateway (codes "host") refl) refl
          (rw e refl) (never (is_some message.date)) (never (is_some message.hops)))
          ∙ ap (λ lines. lines_at m (codes "host") ++ lines) (own_host gateway.pseudonym message)
          ∙ rw e (append-nil (lines_at m (codes "host")))
      by (Some line) e = left_out (codes "host") (anew gateway message options (codes "host") (rw e refl))
          ∙ own_host gateway.pseudonym message ∙ rw e refl

  sent_date : lines_under sent (codes "date") ≡ replaced (option_map fixdate message.date) (lines_at m (codes "date"))
  sent_date = by message.date refl
    where
      by : (o : Option ℕ) → message.date ≡ o → lines_under sent (codes "date")
          ≡ replaced (option_map fixdate message.date) (lines_at m (codes "date"))
      by None e = kept (codes "date") (
          goes gateway message options (codes "date") (date_end_to_end further options unprotected consumes)
          (well_spelt gateway (codes "date") refl) refl
          (never (is_some message.host)) (rw e refl) (never (is_some message.hops)))
          ∙ ap (λ lines. lines_at m (codes "date") ++ lines) (own_date gateway.pseudonym message)
          ∙ rw e (append-nil (lines_at m (codes "date")))
      by (Some n) e = left_out (codes "date")
          (anew gateway message options (codes "date") (rw e (rw (never (is_some message.host)) refl)))
          ∙ own_date gateway.pseudonym message ∙ rw e refl

  sent_hops : lines_under sent (codes "max-forwards")
      ≡ replaced (option_map decimal message.hops) (lines_at m (codes "max-forwards"))
  sent_hops = by message.hops refl
    where
      by : (o : Option ℕ) → message.hops ≡ o → lines_under sent (codes "max-forwards")
          ≡ replaced (option_map decimal message.hops) (lines_at m (codes "max-forwards"))
      by None e = kept (codes "max-forwards") (goes gateway message options (codes "max-forwards")
          (hops_end_to_end further options unprotected consumes) (well_spelt gateway (codes "max-forwards") refl) refl
          (never (is_some message.host)) (never (is_some message.date)) (rw e refl))
          ∙ ap (λ lines. lines_at m (codes "max-forwards") ++ lines) (own_hops gateway.pseudonym message)
          ∙ rw e (append-nil (lines_at m (codes "max-forwards")))
      by (Some n) e = left_out (codes "max-forwards") (anew gateway message options (codes "max-forwards")
          (rw e (rw (never (is_some message.host), never (is_some message.date)) refl)))
          ∙ own_hops gateway.pseudonym message ∙ rw e refl

  pub forwards : (fields : List Field) → fields ≡ sent → Forwards gateway message (lines_at m) (lines_under fields)
  forwards fields e = grind (
    arith,
    sent_end_to_end,
    sent_misspelt,
    sent_hop_by_hop,
    sent_via,
    sent_host,
    sent_date,
    sent_hops,
    sent_length,
    sent_coding,
  )
