-- Comparison without ASCII case, as a fact and as a test.
use Rattle.{headers_syntax.specs.AsciiCase.{SameButForCase, same_name}, std.proofs.Common.{Bool, IsTrue, List, arith}}
use Rattle.std.proofs.{Common.{ℕ, ◌↔◌, ◌≡◌}, lemmas.{Grind.common_steps, Slice.Eq.bytes_eq-Decides}}

-- the test of names decides whether they are the same
pub same_name-is : (a b : List ℕ) (r : Bool) → (IsTrue r ↔ SameButForCase a b) → r ≡ same_name a b
same_name-is a b x3 h = grind (arith, common_steps, bytes_eq-Decides)
