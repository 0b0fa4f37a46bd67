-- The header `if-match` (RFC 9110, section 13.1.1).
use Rattle.std.specs.Prelude.{ℕ, List}
use Rattle.headers_syntax.specs.EntityTag.{StronglyEqual}
use Rattle.headers_core.{specs.EntityTagRange.Matches, specs.declared.entity_tag_range.EntityTagRange.EntityTagRange}

-- the condition passes for a tag: it is `*`, or some item is a tag that is strongly equal
abbrev pub MatchPasses : EntityTagRange → List ℕ → Type 0
MatchPasses = Matches StronglyEqual
