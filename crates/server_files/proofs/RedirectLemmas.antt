-- A redirect leads to the host that was asked.
use Rattle.std.proofs.Common.{◌≡◌, ℕ, Bool, true, false, List, [], ◌∷◌, ◌++◌, Option, Some, refl, subst, arith, ap, inl}
use Rattle.std.{proofs.{Common.◌∙◌, lemmas.Bool.{eq-eqb, Decides.nat_tests}}, specs.List.{onto_first, slice_split}}
use Rattle.{std.specs.Prelude.{codes, if◌then◌else◌, ◌==◌}, percent_encoding.specs.Percent.percent_decode}
use Rattle.server_files.specs.Path.{IsStorePath, Names, are_names, ends_in_slash, is_plain, with_index}
use Rattle.server_files.specs.Redirect.{HasNoIndex, IsOnHost, index_target}

-- a byte that is no percent sign is its own
keeps_slash : (rest : List ℕ) → percent_decode (47 ∷ rest) ≡ 47 ∷ percent_decode rest
unfolding percent_decode
keeps_slash [] = refl
keeps_slash (high ∷ []) = refl
keeps_slash (high ∷ low ∷ rest) = refl

keeps_backslash : (rest : List ℕ) → percent_decode (92 ∷ rest) ≡ 92 ∷ percent_decode rest
unfolding percent_decode
keeps_backslash [] = refl
keeps_backslash (high ∷ []) = refl
keeps_backslash (high ∷ low ∷ rest) = refl

-- no plain path begins with either
slash_with : (indexed : Bool) (rest index : List ℕ)
    → is_plain (if indexed then (47 ∷ rest) ++ index else 47 ∷ rest) ≡ false
slash_with true rest index = refl
slash_with false rest index = refl

backslash_first : (names : List (List ℕ)) → are_names (onto_first 92 names) ≡ false
backslash_first [] = refl
backslash_first (name ∷ names) = grind (arith, nat_tests)

backslash_with : (indexed : Bool) (rest index : List ℕ)
    → is_plain (if indexed then (92 ∷ rest) ++ index else 92 ∷ rest) ≡ false
backslash_with true rest index = backslash_first (slice_split (λ byte. byte == 47) (rest ++ index))
backslash_with false rest index = backslash_first (slice_split (λ byte. byte == 47) rest)

no_slash : (rest named : List ℕ) → named ≡ with_index (percent_decode (47 ∷ rest)) → is_plain named ≡ true → ⊥
no_slash rest named is_named plain =
    let decoded : named ≡ with_index (47 ∷ percent_decode rest) = is_named ∙ ap with_index (keeps_slash rest) in
    let hidden : is_plain (with_index (47 ∷ percent_decode rest)) ≡ false =
    slash_with _ (percent_decode rest) (codes "index.html") in
    let shown : is_plain (with_index (47 ∷ percent_decode rest)) ≡ true =
    subst (λ (path : List ℕ). is_plain path ≡ true) decoded plain in cc

no_backslash : (rest named : List ℕ) → named ≡ with_index (percent_decode (92 ∷ rest)) → is_plain named ≡ true → ⊥
no_backslash rest named is_named plain =
    let decoded : named ≡ with_index (92 ∷ percent_decode rest) = is_named ∙ ap with_index (keeps_backslash rest) in
    let hidden : is_plain (with_index (92 ∷ percent_decode rest)) ≡ false =
    backslash_with _ (percent_decode rest) (codes "index.html") in
    let shown : is_plain (with_index (92 ∷ percent_decode rest)) ≡ true =
    subst (λ (path : List ℕ). is_plain path ≡ true) decoded plain in cc

on_host : (path named : List ℕ) (query : Option (List ℕ)) → IsStorePath path named → ¬ (ends_in_slash path ≡ true)
    → IsOnHost (index_target path query)
on_host [] named query h unslashed = let none : 0 ≡ 47 = h.rooted in absurd (omega (arith, none))
on_host (root ∷ []) named query h unslashed = absurd (unslashed (eq-eqb root 47 h.rooted))
on_host (root ∷ first ∷ rest) named query h unslashed = record {
  rooted = h.rooted;
  no_slash = λ e. no_slash rest named
      (subst (λ (byte : ℕ). named ≡ with_index (percent_decode (byte ∷ rest))) e h.is_named) h.plain;
  no_backslash = λ e. no_backslash rest named
      (subst (λ (byte : ℕ). named ≡ with_index (percent_decode (byte ∷ rest))) e h.is_named) h.plain;
}

pub stays_on_host : (path named : List ℕ) (query : Option (List ℕ)) → Names path (Some named)
    → ¬ (HasNoIndex path query) → IsOnHost (index_target path query)
stays_on_host path named query h has_index = on_host path named query h (λ slash. has_index (inl slash))
