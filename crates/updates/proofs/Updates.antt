-- What follows for changes, and for what clients get.
use Rattle.std.proofs.Common.{◌≡◌, ℕ, zero, suc, ◌<◌, cond, List, [], ◌∷◌, slice_get, nat_eq, Some, refl, ap, arith}
use Rattle.std.proofs.{Common.{inl, inr}, lemmas.{Option.same_Some, Slice.Eq.bytes_eq-Decides}}
use Rattle.updates.specs.{Statements.{Has, HasStrongTags, HasUniqueTags, IsGuarded, LeadsTo}, Worlds.Version}
use Rattle.updates.{specs.Worlds.{Received, Change, World, client_of, given, shown, versions}, proofs.Lists.Has_append}
use Rattle.updates.proofs.{Lists.Has_map, Steps.{Holds, Links}}

-- what has been given was in a response
among : (client : ℕ) (received : List Received) (v : Version) → Has (given client received) v
    → (one : Received) × Has received one × Has (shown one.response) v
among client [] v has = absurd has
among client (one ∷ earlier) v has = elim
    (Has_append (cond (nat_eq (client_of one.request) client) (shown one.response) []) (given client earlier) v has) [
      | inl here ↦ (one, inl refl, grind (arith, here))
      | inr later ↦ let on = among client earlier v later in (on.0, inr on.1, on.2)
    ]

module _ {first : Version} {w : World} (holds : Holds first w) (change : Change) (has : Has w.changes change) where
  read-version : Has (versions w) change.put.read
  read-version =
      let on = among change.put.client w.received change.put.read (holds.changes change has).0 in
      grind (arith, holds.received on.0 on.1, on.2)

  replaced-version : Has (versions w) change.replaced
  replaced-version = inr (Has_map (λ c. c.replaced) w.changes change has)

  -- the condition of a guarded change was true
  same-tag : IsGuarded change.put → change.put.read.etag ≡ change.replaced.etag
  same-tag guarded = (bytes_eq-Decides _ _).0 (rw guarded at (holds.changes change has).1)

  pub swaps-content : HasStrongTags w → IsGuarded change.put → change.put.read.content ≡ change.replaced.content
  swaps-content strong guarded = strong _ _ read-version replaced-version (same-tag guarded)

  pub swaps : HasUniqueTags w → IsGuarded change.put → change.put.read ≡ change.replaced
  swaps unique guarded = unique _ _ read-version replaced-version (same-tag guarded)

-- ---- in line

-- each version is replaced by a later one
below : (first : Version) (changes : List Change) (current : Version) → Links first changes current → (j : ℕ)
    (b : Change) → slice_get changes j ≡ Some b → b.replaced.number < current.number
below first [] current links j b e = absurd (grind (arith, e))
below first (change ∷ earlier) current links zero b e =
    omega (arith, ap (λ c. c.replaced.number) (same_Some change b e), ap (λ v. v.number) links.0, links.1)
below first (change ∷ earlier) current links (suc j) b e =
    omega (arith, below first earlier change.replaced links.3 j b e, ap (λ v. v.number) links.0, links.1)

-- so no version is replaced twice
pub once : (first : Version) (changes : List Change) (current : Version) → Links first changes current → (i j : ℕ)
    (a b : Change) → slice_get changes i ≡ Some a → slice_get changes j ≡ Some b → a.replaced ≡ b.replaced → i ≡ j
once first [] current links i j a b at other same = absurd (grind (arith, at))
once first (change ∷ earlier) current links zero zero a b at other same = refl
once first (change ∷ earlier) current links zero (suc j) a b at other same =
    let one = ap (λ c. c.replaced.number) (same_Some change a at) in
    absurd (omega (arith, below first earlier _ links.3 j b other, one, ap (λ v. v.number) same))
once first (change ∷ earlier) current links (suc i) zero a b at other same =
    let one = ap (λ c. c.replaced.number) (same_Some change b other) in
    absurd (omega (arith, below first earlier _ links.3 i a at, one, ap (λ v. v.number) same))
once first (change ∷ earlier) current links (suc i) (suc j) a b at other same =
    ap suc (once first earlier change.replaced links.3 i j a b at other same)

pub leads : (first : Version) (changes : List Change) (current : Version) → Links first changes current
    → ((change : Change) → Has changes change → change.put.read ≡ change.replaced) → LeadsTo first changes current
leads first [] current links each = links
leads first (change ∷ earlier) current links each =
    (links.0, links.2, each change (inl refl), leads first earlier change.replaced links.3 (λ c h. each c (inr h)))
