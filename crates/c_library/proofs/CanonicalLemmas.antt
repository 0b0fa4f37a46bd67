-- A section without a line.
use Rattle.std.proofs.Common.{◌≡◌, ℕ, false, List, [], ◌∷◌, ◌++◌, ap, arith, length, length-append, refl, subst, sym}
use Rattle.{std.proofs.lemmas.List.Elements.All-nil, headers.specs.Lines.Line}
use Rattle.headers_section.specs.{CanonicalText.{Block, IsBlock, IsCanonicalText, lines_under}, Section.AreFields}
use Rattle.headers_section.specs.Section.{Field, FillsMap, HasTooManyFields, section}

no_fields : (fields : List Field) → AreFields [] fields → ¬ (FillsMap fields)
no_fields [] are fills = omega (arith, ap length fills.split, length-append fills.first (fills.next ∷ fills.later))
no_fields (field ∷ fields) are fills = are

-- it doesn't fill a map
pub HasTooManyFields-none : (input : List ℕ) → section input ≡ [] → ¬ (HasTooManyFields input)
HasTooManyFields-none input none many =
    no_fields many.0 (subst (λ (lines : List Line). AreFields lines many.0) none many.1) many.2

-- its canonical text is empty, and marks nothing
pub IsCanonicalText-none : (input text : List ℕ) → section input ≡ [] → text ≡ [] → IsCanonicalText input text false
IsCanonicalText-none input text none empty = record {
  fields = [];
  are_fields = subst (λ (lines : List Line). AreFields lines []) (sym none) tt;
  is_text = record {
    blocks = [];
    in_order = refl;
    each = All-nil (λ (block : List ℕ × Block). IsBlock block.0 (lines_under [] block.0) block.1);
    text_is = empty;
    refused_is = refl;
  };
}
