-- Entity tags without `W/`.
use Rattle.std.proofs.Common.{◌≡◌, ℕ, Bool, true, false, List, [], ◌∷◌, ◌++◌, Option, Some, None, refl, sym, ◌∙◌, subst}
use Rattle.std.{proofs.{Common.{inl, inr}, lemmas.{Bool.cases_Bool, List.same_from_push}}, specs.Option.option_and_then}
use Rattle.headers.specs.{EntityTag.{AreTags, IsTag, TagParts, WeaklyEqual, is_tag, parts_of, weak_prefix}, Lines.Line}
use Rattle.headers.{specs.{Lines.only_line, Shapes.tag_line, Text.quote}, proofs.EntityTagLemmas.IsTag-from_is_tag}
use Rattle.c_library.specs.Tags.{Tells, quoted_part, reads_tag}

quoted_part-text : (is_weak : Bool) (opaque bytes : List ℕ)
    → bytes ≡ weak_prefix is_weak ++ quote ∷ (opaque ++ quote ∷ []) → quoted_part bytes ≡ quote ∷ (opaque ++ quote ∷ [])
quoted_part-text true opaque bytes e = rw e refl
quoted_part-text false opaque bytes e = rw e refl

WeaklyEqual-from_quoted : (one other : List ℕ) (s t : TagParts) → IsTag one s → IsTag other t
    → quoted_part one ≡ quoted_part other → WeaklyEqual s t
WeaklyEqual-from_quoted one other s t is is_other same =
    let quoted : quote ∷ (s.opaque ++ quote ∷ []) ≡ quote ∷ (t.opaque ++ quote ∷ []) =
    sym (quoted_part-text s.is_weak s.opaque one is.text)
    ∙ same
    ∙ quoted_part-text t.is_weak t.opaque other is_other.text in
    let inner : s.opaque ++ quote ∷ [] ≡ t.opaque ++ quote ∷ [] = cc quoted in
    (same_from_push s.opaque t.opaque quote quote inner).0

-- what parses as a tag is one
IsTag-from_read : (lines : List Line) (tag : Line) → reads_tag lines tag → IsTag tag (parts_of tag)
IsTag-from_read lines tag read = IsTag-from_is_tag tag (by (only_line lines) read)
  where
    by : (line : Option Line) → option_and_then tag_line line ≡ Some tag → is_tag tag ≡ true
    by None e = absurd (cc e)
    by (Some line) e = elim (cases_Bool (is_tag line)) [
      | inl t ↦
          let some : Some line ≡ Some tag = rw t at e in
          let same : line ≡ tag = cc some in
          subst (λ (bytes : Line). is_tag bytes ≡ true) same t
      | inr f ↦ let none : None ≡ Some tag = rw f at e in absurd (cc none)
    ]

-- two tags that were read, and have the same quoted part
pub Tells-equal : (lines others : List Line) (one other : Line) → reads_tag lines one → reads_tag others other
    → quoted_part one ≡ quoted_part other → Tells (AreTags WeaklyEqual one other) 1
Tells-equal lines others one other read read_other same =
    let is = IsTag-from_read lines one read in
    let is_other = IsTag-from_read others other read_other in
    inl (refl, (parts_of one, parts_of other, is, is_other, WeaklyEqual-from_quoted one other _ _ is is_other same))
