use Rattle.std.{proofs.Common.arith, proofs.lemmas.Str.{IsCharBoundary-after_ascii, IsUtf8-string_bytes}}
use Rattle.headers_authorization.proofs.basic.Basic.password.Goals as goal

pub range_from-requires : goal.range_from-requires
range_from-requires c _ =
    let place = c.self.invariant in
    let utf8 = IsUtf8-string_bytes c.self.inside.decoded in
    rw c.as_str.ensures.value (IsCharBoundary-after_ascii _ _ utf8 place.0 (omega (arith, place.1)))
