-- The comparison of entity tags.
use Rattle.std.proofs.{Common.{arith, ◌≡◌, ◌↔◌, Bool, true, IsTrue}, lemmas.Bool.{and_parts, and_from, not-true}}
use Rattle.std.proofs.lemmas.Slice.Eq.{bytes_eq-Decides}
use Rattle.headers.specs.{EntityTag.{AreTags, StronglyEqual, WeaklyEqual, parts_of}, Lines.Line}
use Rattle.headers_syntax.proofs.EntityTagLemmas.{IsTag-from_is_tag, is_tag-true, parts_of-tag}
use Rattle.decide_preconditions.specs.{Tags.are_equal, declared.tags.Comparison.TheVariants.{Strong, Weak}}

strong_from : (a b : Line) → AreTags StronglyEqual a b → are_equal Strong a b ≡ true
strong_from a b h = grind (arith, parts_of-tag, and_from, is_tag-true, bytes_eq-Decides)

strong_to : (a b : Line) → are_equal Strong a b ≡ true → AreTags StronglyEqual a b
strong_to a b e = (
  parts_of a,
  parts_of b,
  IsTag-from_is_tag a (grind (arith, and_parts)),
  IsTag-from_is_tag b (grind (arith, and_parts)),
  grind (arith, and_parts, not-true, bytes_eq-Decides),
)

pub strongly_equal : (a b : Line) → IsTrue (are_equal Strong a b) ↔ AreTags StronglyEqual a b
strongly_equal a b = (strong_to a b, strong_from a b)

weak_from : (a b : Line) → AreTags WeaklyEqual a b → are_equal Weak a b ≡ true
weak_from a b h = grind (arith, parts_of-tag, and_from, is_tag-true, bytes_eq-Decides)

weak_to : (a b : Line) → are_equal Weak a b ≡ true → AreTags WeaklyEqual a b
weak_to a b e = (
  parts_of a,
  parts_of b,
  IsTag-from_is_tag a (grind (arith, and_parts)),
  IsTag-from_is_tag b (grind (arith, and_parts)),
  grind (arith, and_parts, bytes_eq-Decides),
)

pub weakly_equal : (a b : Line) → IsTrue (are_equal Weak a b) ↔ AreTags WeaklyEqual a b
weakly_equal a b = (weak_to a b, weak_from a b)

-- a test that gives one fact gives its Bool
pub bool_of : (b c : Bool) (P : Type 0) → (IsTrue b ↔ P) → (IsTrue c ↔ P) → b ≡ c
bool_of b c h2 h k = grind arith
