-- What is forwarded of the trailer fields, name by name.
use Rattle.std.proofs.Common.{arith, ◌≡◌, ℕ, Bool, true, false, not, List, [], refl, ◌∙◌, ap, map, filter}
use Rattle.{std.specs.Prelude.if◌then◌else◌, http_header.specs.{FieldValue.FieldValue, HeaderMap.{Entries, IsUnique}}}
use Rattle.{http_header.specs.HeaderMap.pairs, headers.specs.LineMap.{LineMap, lines_at}, rfc_fields.specs.Scan.Member}
use Rattle.gateway_messages.specs.{FieldLines.{Field, field_of, lines_under}, HopByHop.connection_options}
use Rattle.gateway_messages.specs.{HopByHop.is_hop_by_hop, Trailers.{ForwardsTrailers, may_trail, trailer_goes_on}}
use Rattle.gateway_messages.specs.declared.{framing.Framing.{Framing, TheVariants.Chunked}, gateway.Gateway.Gateway}
use Rattle.gateway_messages.proofs.{ForwardLemmas.never, ReceivedLemmas.{lines_under-filter, received_lines}}

goes : (gateway : Gateway) (options : List Member) (name : List ℕ) → is_hop_by_hop gateway.consumes_credentials
    options name ≡ false → may_trail gateway name ≡ true → trailer_goes_on gateway options name ≡ true
unfolding trailer_goes_on
goes gateway options name e may = rw (e, may) refl

stops : (gateway : Gateway) (options : List Member) (name : List ℕ)
    → is_hop_by_hop gateway.consumes_credentials options name ≡ true → trailer_goes_on gateway options name ≡ false
unfolding trailer_goes_on
stops gateway options name e = rw e refl

denied : (gateway : Gateway) (options : List Member) (name : List ℕ) → may_trail gateway name ≡ false
    → trailer_goes_on gateway options name ≡ false
unfolding trailer_goes_on
denied gateway options name e = rw e (never (not (is_hop_by_hop gateway.consumes_credentials options name)))

module _ (gateway : Gateway) (message : LineMap) (m : Entries FieldValue) (unique : IsUnique m) where
  abbrev going : List ℕ → Bool
  going name = trailer_goes_on gateway (connection_options message) name

  by_name : (fields : List Field) → fields ≡ filter (λ field. going field.0) (map field_of (pairs m))
      → (name : List ℕ) → lines_under fields name ≡ (if going name then lines_at m name else [])
  by_name fields e name = ap (λ (fs : List Field). lines_under fs name) e ∙ lines_under-filter going
      (map field_of (pairs m)) name ∙ ap (λ lines. if going name then lines else []) (received_lines m _ unique)

  left_out : (fields : List Field) → fields ≡ filter (λ field. going field.0) (map field_of (pairs m))
      → (name : List ℕ) → going name ≡ false → lines_under fields name ≡ []
  left_out fields e name f = by_name fields e name ∙ rw f refl

  pub chunked_trailers : (fields : List Field) → fields ≡ filter (λ field. going field.0) (map field_of (pairs m))
      → (framing : Framing) → framing ≡ Chunked
      → ForwardsTrailers gateway framing message (lines_at m) (lines_under fields)
  chunked_trailers fields e framing chunked = grind (arith, by_name, goes, gateway, left_out, stops, denied)
