-- One line more.
use Rattle.std.proofs.lemmas.Grind.{common_steps}
use Rattle.std.proofs.Common.{Bool, Err, IfOk, IsTrue, List, None, Ok, Option, Result, Some, [], ap, append_assoc, map}
use Rattle.std.proofs.Common.{arith, false, length, length-append, refl, subst, sym, true, ℕ, ◌++◌, ◌<◌, ◌∙◌, ◌∷◌, ◌≡◌}
use Rattle.{headers_items.specs.CutLaw.{IsMerged, MergesItems, MergesLines}, headers_syntax.specs.HeaderLaws.ReadsBack}
use Rattle.{headers_syntax.specs.Lines.{Line, lines_of}, http_header.specs.FieldValue.{FieldValue, IsFieldValue}}
use Rattle.std.{proofs.lemmas.List.Elements.{All-append, All-cons}, specs.Iterator.Adapters.{map_source, map_steps}}
use Rattle.{headers_items.specs.Separator.IsSeparator, std.proofs.lemmas.{Bool.Decides.nat_tests, List.append-nil}}
use Rattle.{headers_items.specs.Merge.{merge, merged}, std.specs.{Iterator.{Yields, YieldsThen}, declared.iter.Map.Map}}
use Rattle.{headers_syntax.specs.OfLines.OfLines, http_header.specs.Token.is_value_byte, std.specs.Bool.MatchBool}
use denote.Param.Members.{Called, Mut}

-- a line after at least one other
pub merge_push : (sep : ℕ) (x : List ℕ) (xs : List (List ℕ)) (y : List ℕ)
    → merge sep (x ∷ xs ++ y ∷ []) ≡ merge sep (x ∷ xs) ++ sep ∷ 32 ∷ y
merge_push sep x [] y = refl
merge_push sep x (z ∷ zs) y = grind (arith, common_steps, append_assoc, merge, merge_push sep z zs y)

-- what a buffer of merged lines holds once a line more has come
pub merged_more : (sep : ℕ) (y before after x : List ℕ) (xs : List (List ℕ)) → after ≡ before ++ sep ∷ 32 ∷ y
    → before ≡ merge sep (x ∷ xs) → after ≡ merge sep (x ∷ xs ++ y ∷ [])
merged_more sep y before after x xs e h = e ∙ ap (λ r. r ++ sep ∷ 32 ∷ y) h ∙ sym (merge_push sep x xs y)

-- a value stays a value
pub IsFieldValue-more : (sep : ℕ) (a b c : List ℕ) → IsSeparator sep → IsFieldValue a → IsFieldValue b
    → c ≡ a ++ sep ∷ 32 ∷ b → IsFieldValue c
IsFieldValue-more sep a b c f h k e = let P : ℕ → Type 0 = λ x. IsTrue (is_value_byte x) in let text = f.is_text in
    let here : IsTrue (is_value_byte sep) = grind (arith, nat_tests) in
    subst IsFieldValue (sym e) (All-append P a (sep ∷ 32 ∷ b) h (All-cons P sep (32 ∷ b) here (All-cons P 32 b refl k)))

-- what an append leaves, in other words
pub appended : (new old line bytes : List ℕ) (b sep : ℕ) → new ≡ old ++ b ∷ 32 ∷ line → b ≡ sep → line ≡ bytes
    → new ≡ old ++ sep ∷ 32 ∷ bytes
appended new old line bytes b sep e f h = e ∙ ap (λ x. old ++ x ∷ 32 ∷ line) f ∙ ap (λ r. old ++ sep ∷ 32 ∷ r) h

-- one line more makes a value longer
pub merge_longer : (sep : ℕ) (lines : List (List ℕ))
    → length (merge sep lines) < length (merge sep (lines ++ (sep ∷ []) ∷ []))
merge_longer sep [] = omega arith
merge_longer sep (x ∷ xs) = grind (arith, common_steps, merge_push, length-append, merge)

-- a value that is the lines that calls gave, whatever may follow, was made once they had ended
pub MergesItems-given : {S E : Type 0} (steps : S → Option FieldValue → S → Type 0) (s t : S) (sep : ℕ)
    (r : Result (List ℕ) E)
    → OfLines (λ v. v) steps s t (λ lines. IfOk r (λ c. IsMerged sep lines c)) → IfOk r (λ c. MergesItems steps s sep c)
MergesItems-given steps s t sep (Err e) g = tt
MergesItems-given {S} steps s t sep (Ok c) g = by g.ended g.calls g.holds
  where
    lines : List (List ℕ)
    lines = map (λ v. v.bytes) g.items

    by : (ended : Bool) → MatchBool ended (YieldsThen steps s g.items None t) (Yields steps s g.items t)
        → ((rest : List (List ℕ)) → (IsTrue ended → rest ≡ []) → IsMerged sep (lines ++ rest) c)
        → MergesItems steps s sep c
    by true calls holds = (
      g.items,
      (t, calls),
      subst (λ (ls : List (List ℕ)). IsMerged sep ls c) (append-nil lines) (holds [] (λ _. refl)),
    )
    by false calls holds = let one : c ≡ merge sep (lines ++ []) = (holds [] (λ _. refl)).bytes in
        let more : c ≡ merge sep (lines ++ (sep ∷ []) ∷ []) = (holds ((sep ∷ []) ∷ []) (λ e. absurd (cc e))).bytes in
        let same : merge sep lines ≡ merge sep (lines ++ (sep ∷ []) ∷ []) = ap (merge sep) (sym (append-nil lines))
        ∙ sym one ∙ more in absurd (omega (arith, merge_longer sep lines, ap length same))

-- calls of a mapped iterator are calls of its source, of whose items each is the line of the value that was given
module _ {S F : Type 0} (steps : S → Option (List ℕ) → S → Type 0) (g : Mut F (List ℕ × Unit {0}) FieldValue)
    (calls : (f f' : F) (x : List ℕ) (v : FieldValue) → Called g f (x, tt) v f' → v.bytes ≡ x) where
  source_yields : (s t : Map S F) (given : List FieldValue) → Yields (map_steps steps g) s given t
      → Yields steps (map_source s) (lines_of given) (map_source t)
  source_yields s t [] e = ap (λ (m : Map S F). map_source m) e
  source_yields s t (v ∷ given) (j, call, later) = grind (arith, source_yields j t given later)

  pub MergesLines-mapped : {E : Type 0} (s : Map S F) (i : S) (sep : ℕ) (r : Result (List ℕ) E) → map_source s ≡ i
      → IfOk r (λ c. MergesItems (map_steps steps g) s sep c) → IfOk r (λ c. MergesLines steps i sep c)
  MergesLines-mapped s i sep x4 h m = grind (arith, source_yields)

-- a merged value, as the one line, is itself again
pub merged_back : {V : Type 0} (separator : ℕ) (kept : V → Line) → ReadsBack (merged separator kept)
merged_back separator kept lines line h = refl
