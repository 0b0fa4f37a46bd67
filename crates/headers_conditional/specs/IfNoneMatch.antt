-- The header `if-none-match` (RFC 9110, section 13.1.2).
use Rattle.std.specs.Prelude.{ℕ, List}
use Rattle.headers_syntax.specs.EntityTag.{WeaklyEqual}
use Rattle.headers_core.{specs.EntityTagRange.Matches, specs.declared.entity_tag_range.EntityTagRange.EntityTagRange}

-- the condition passes for a tag: it isn't `*`, and no item is a tag that is weakly equal
abbrev pub NoneMatchPasses : EntityTagRange → List ℕ → Type 0
NoneMatchPasses tags tag = ¬ (Matches WeaklyEqual tags tag)
