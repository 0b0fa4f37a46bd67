-- A response that says of its connection at most that it is closed loses no other field on its way.
use Rattle.std.proofs.Common.{◌≡◌, ◌≢◌, ℕ, Bool, true, false, List, refl, sym, ◌∙◌, ap, inl, inr}
use Rattle.std.{proofs.lemmas.{Bool.cases_Bool, Slice.Eq.bytes_eq-Decides}, specs.Prelude.{◌||◌, bytes_eq, codes}}
use Rattle.{std.specs.List.list_any, http_header.specs.Token.lowercase, headers.specs.{LineMap.LineMap, Lines.Line}}
use Rattle.{chain.specs.Servers.{SaysCloseAtMost, connection_lines}, rfc_fields.specs.Members.field_members}
use Rattle.{rfc_fields.specs.Scan.{pieces, push}, gateway_messages.specs.HopByHop.connection_options}
use Rattle.gateway_messages.specs.HopByHop.{hop_by_hop_fields, is_hop_by_hop, is_known, is_named, proxy_fields}

-- `close` names no field of another name
not_close : (name : List ℕ) → lowercase name ≢ codes "close" → bytes_eq (codes "close") (lowercase name) ≡ false
not_close name other = elim (cases_Bool (bytes_eq (codes "close") (lowercase name))) [
  | inl t ↦ absurd (other (sym ((bytes_eq-Decides (codes "close") (lowercase name)).0 t)))
  | inr f ↦ f
]

names_none : (closes : Bool) (name : List ℕ) → lowercase name ≢ codes "close"
    → is_named (field_members true (connection_lines closes)) name ≡ false
unfolding pieces push
names_none true name other = ap (λ (b : Bool). b || false) (not_close name other)
names_none false name other = refl

pub known_by : (consumes : Bool) (name : List ℕ) → is_known true name ≡ false → is_known consumes name ≡ false
known_by true name e = e
known_by false name e = by (list_any (bytes_eq name) hop_by_hop_fields) e
  where
    by : (b : Bool) → (b || list_any (bytes_eq name) proxy_fields) ≡ false → (b || false) ≡ false
    by true h = h
    by false h = refl

-- a field that isn't for one connection crosses
pub crosses_if : (consumes : Bool) (fields : LineMap) → SaysCloseAtMost fields → (name : List ℕ)
    → is_known true name ≡ false → lowercase name ≢ codes "close"
    → is_hop_by_hop consumes (connection_options fields) name ≡ false
crosses_if consumes fields at_most name end_to_end other =
    ap (λ (lines : List Line). is_hop_by_hop consumes (field_members true lines) name) at_most.1 ∙ ap
    (λ (b : Bool). b || is_named (field_members true (connection_lines at_most.0)) name)
    (known_by consumes name end_to_end) ∙ names_none _ _ other
