-- What is before and after the first semicolon of a text.
use Rattle.std.proofs.Common.{◌≡◌, ◌∙◌, ◌≢◌, ℕ, ◌+◌, ◌≤◌, Bool, true, List, [], ◌∷◌, length, refl, sym, ap, arith}
use Rattle.{std.proofs.lemmas.Bool.cases_Bool, rfc_fields.specs.{Directives.HasParameters, Scan.{Member, pieces, push}}}
use Rattle.rfc_fields.specs.{Scan.Member.{Whole, Malformed}, Members.{members, members_of}}
use Rattle.decide_negotiation.specs.Elements.{between_semicolons, first_of, members_after, others_of, own_parameters}
use Rattle.decide_negotiation.{specs.Elements.value_of, proofs.ParameterLemmas.own}

pub no_members : members true [] ≡ []
unfolding pieces
no_members = refl

pub value_of-read : (text value : List ℕ) (others : List Member) → HasParameters text value others
    → value ≡ value_of text
unfolding value_of
value_of-read text value others h = h.trimmed ∙ ap first_of (sym h.cut)

pub members_after-read : (text value : List ℕ) (others : List Member) → HasParameters text value others
    → others ≡ members_after text
unfolding members_after
members_after-read text value others h = h.listed ∙ ap others_of (sym h.cut)

module _ (text : List ℕ)
    (none : (first : List ℕ) (others : List Member) → between_semicolons text ≢ Whole first ∷ others) where
  nothing : (ms : List Member) → between_semicolons text ≡ ms → (first_of ms ≡ []) × (others_of ms ≡ [])
  nothing [] e = (refl, refl)
  nothing (Whole first ∷ others) e = absurd (none first others e)
  nothing (Malformed ∷ others) e = (refl, refl)

  pub value_of-none : value_of text ≡ []
  unfolding value_of
  value_of-none = (nothing (between_semicolons text) refl).0

  pub members_after-none : members_after text ≡ []
  unfolding members_after
  members_after-none = (nothing (between_semicolons text) refl).1

-- ---- how many members there are

length-push : (b : ℕ) (ms : List Member) → length (push b ms) ≡ length ms
unfolding push
length-push b [] = refl
length-push b (m ∷ ms) = refl

pieces-length : (separator : ℕ) (pairs : Bool) (s : List ℕ) (state : _)
    → length (pieces separator pairs state s) ≤ length s + 1
unfolding pieces
pieces-length separator pairs [] state = omega arith
pieces-length separator pairs (b ∷ s) state = grind (arith, cases_Bool, length-push, pieces-length separator pairs s)

trimmed-length : (ms : List Member) → length (members_of ms) ≤ length ms
trimmed-length [] = omega arith
trimmed-length (m ∷ ms) = grind (arith, cases_Bool, trimmed-length ms)

others-length : (ms : List Member) → length (others_of ms) ≤ length ms
others-length [] = omega arith
others-length (m ∷ others) = grind (arith, trimmed-length others)

own-length : (ms : List Member) → length (own ms) ≤ length ms
own-length [] = omega arith
own-length (m ∷ ms) = grind (arith, cases_Bool, own-length ms)

-- a text has no more parameters than bytes
pub own_parameters-length : (text : List ℕ) → length (own_parameters text) ≤ length text + 1
unfolding members_after
own_parameters-length text = grind (arith, own-length, others-length, pieces-length)
