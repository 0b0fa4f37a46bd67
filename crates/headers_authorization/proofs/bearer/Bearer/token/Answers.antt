use Rattle.headers_authorization.proofs.SchemeLemmas.{IsCharBoundary-after_scheme}
use Rattle.headers_authorization.proofs.bearer.Bearer.token.Goals as goal

pub range_from-requires : goal.range_from-requires
range_from-requires c _ = IsCharBoundary-after_scheme _ _ _ c.self.invariant c.as_str.ensures c.as_str.utf8
