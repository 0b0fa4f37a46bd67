-- The loop over what stands between quotes, and its octets.
use Rattle.std.proofs.Common.{◌≡◌, ℕ, ◌+◌, ◌<◌, ◌≤◌, Bool, true, false, not, List, [], ◌∷◌, length, get_or, take, drop}
use Rattle.std.proofs.{Common.{◌-◌, Option, refl, ◌∙◌, ap, add-one, arith}, Math.Seq.drop-cons, lemmas.List.drop_all}
use Rattle.std.{proofs.lemmas.{List.take_all, Bool.{eqb-true, false_from_ne_true}}, specs.Option.option_map_or}
use Rattle.rfc_fields.specs.Values.{escape_after, is_quoted_text, octets_from, octets_after}
use Rattle.rfc_fields.proofs.GrammarLemmas.{false_true}

quoted-step : (e : Bool) (i : ℕ) (s : List ℕ) → i < length s → is_quoted_text e (drop i s)
    ≡ option_map_or (λ next. is_quoted_text next (drop (i + 1) s)) (escape_after e (get_or s i 0)) false
unfolding is_quoted_text
quoted-step e i s h = grind (arith, drop-cons, option_map_or, add-one)

pub quoted-next : (e : Bool) (i : ℕ) (s : List ℕ) (all : Bool) (r : Option Bool) → i < length s
    → r ≡ escape_after e (get_or s i 0) → all ≡ is_quoted_text e (drop i s)
    → all ≡ option_map_or (λ next. is_quoted_text next (drop (i + 1) s)) r false
quoted-next e i s all r h n a = grind (arith, quoted-step, option_map_or)

pub quoted-end : (e : Bool) (i : ℕ) (s : List ℕ) (all : Bool) → length s ≤ i
    → all ≡ is_quoted_text e (drop i s) → all ≡ not e
unfolding is_quoted_text
quoted-end e i s all h a = a ∙ ap (is_quoted_text e) (drop_all i s h)

-- a text that begins with no quoted-pair
pub octets_plain : (q : Bool) (s : List ℕ) → (q ≡ true → get_or s 0 0 ≡ 92 → 0 < length s → ⊥)
    → octets_after false q s ≡ octets_after true q s
unfolding octets_from
octets_plain false s h = refl
octets_plain true [] h = refl
octets_plain true (b ∷ s) h = grind (arith, false_from_ne_true, eqb-true)

-- the octets behind the first
pub octets_first : (q : Bool) (b : ℕ) (s : List ℕ) → octets_after true q (b ∷ s) ≡ b ∷ octets_after false q s
unfolding octets_from
octets_first q b s = grind arith

pub octets_none : (e q : Bool) → octets_after e q [] ≡ []
unfolding octets_from
octets_none e q = grind arith

-- a text that begins with one
pub octets_pair : (q : Bool) (s : List ℕ) → q ≡ true → 0 < length s → get_or s 0 0 ≡ 92
    → octets_after false q s ≡ octets_after true q (take (length s - 1) (drop 1 s))
unfolding octets_from
octets_pair q s e h f = grind (arith, take_all, false_true)

pub octets_some : (q : Bool) (s t : List ℕ) (b : ℕ) (rest : List ℕ) → octets_after false q s ≡ octets_after true q t
    → t ≡ b ∷ rest → octets_after false q s ≡ b ∷ octets_after false q rest
octets_some q s t b rest e h = e ∙ ap (octets_after true q) h ∙ octets_first q b rest

pub octets_empty : (q : Bool) (s t : List ℕ) → octets_after false q s ≡ octets_after true q t → length t ≡ 0
    → octets_after false q s ≡ []
octets_empty q s [] e h = e ∙ octets_none true q
octets_empty q s (b ∷ t) e h = absurd (omega arith)
