-- What follows a scheme in a line.
use Rattle.std.{proofs.Common.{◌≡◌, ℕ, ◌+◌, List, length, sym, subst, arith}, specs.Str.{IsUtf8, IsCharBoundary}}
use Rattle.std.proofs.lemmas.Str.{IsCharBoundary-after_ascii}
use Rattle.headers_syntax.specs.Lines.{Line}
use Rattle.headers_authorization.specs.Scheme.{HasScheme}

-- a text may be cut after its scheme and the space
pub IsCharBoundary-after_scheme : (scheme : List ℕ) (line text : Line) → HasScheme scheme line
    → text ≡ line → IsUtf8 text → IsCharBoundary text (length scheme + 1)
IsCharBoundary-after_scheme scheme line text h same utf8 =
    let k : HasScheme scheme text = subst (HasScheme scheme) (sym same) h in
    IsCharBoundary-after_ascii text (length scheme) utf8 k.longer (omega (arith, k.spaced))
