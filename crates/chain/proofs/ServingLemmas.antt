-- Which requests are plain, as the tests find it.
use Rattle.std.proofs.Common.{◌≡◌, ℕ, Bool, true, false, List, [], ◌∷◌, refl, sym, ◌∙◌, ap, inl, inr}
use Rattle.std.proofs.lemmas.{Bool.cases_Bool, List.Elements.{All-cons, All-head, All-nil, All-tail}}
use Rattle.{std.specs.{Prelude.{All, ◌||◌}, List.list_any}, headers.specs.{LineMap.LineMap, Lines.Line}}
use Rattle.chain.specs.{Caches.special_names, Serving.{has_special, is_there}}

absent : (lines : List Line) → is_there lines ≡ false → lines ≡ []
absent [] e = refl
absent (line ∷ lines) e = absurd (cc e)

module _ (fields : LineMap) where
  abbrev IsAbsent : List ℕ → Type 0
  IsAbsent name = fields name ≡ []

  all_absent : (names : List (List ℕ)) → list_any (λ name. is_there (fields name)) names ≡ false → All IsAbsent names
  all_absent [] e = All-nil IsAbsent
  all_absent (name ∷ names) e = elim (cases_Bool (is_there (fields name))) [
    | inl t ↦
        absurd (cc (e, ap (λ (b : Bool). b || list_any (λ other. is_there (fields other)) names) t))
    | inr f ↦
        All-cons IsAbsent name names (absent (fields name) f) (
        all_absent names (sym (ap (λ (b : Bool). b || list_any (λ other. is_there (fields other)) names) f) ∙ e)
        )
  ]

  none_there : (names : List (List ℕ)) → All IsAbsent names → list_any (λ name. is_there (fields name)) names ≡ false
  none_there [] all = refl
  none_there (name ∷ names) all =
      let first : fields name ≡ [] = All-head IsAbsent name names all in
      ap (λ (lines : List Line). is_there lines || list_any (λ other. is_there (fields other)) names) first
      ∙ none_there names (All-tail IsAbsent name names all)

  pub without_special : has_special fields ≡ false → All IsAbsent special_names
  without_special e = all_absent special_names e

  pub not_special : All IsAbsent special_names → has_special fields ≡ true → ⊥
  not_special all e = let none = none_there special_names all in cc (none, e)
