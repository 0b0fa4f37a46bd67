use Rattle.{std.proofs.Common.{◌≡◌, option_map}, headers_syntax.specs.Lines.lines_of}
use Rattle.cache_fields.specs.{Directives.nothing, Targets.{all_members, told_after}}
use Rattle.cache_fields.proofs.targets.told_by.Given as goal

abbrev pub invariant-loop-line : goal.invariant-loop-line
invariant-loop-line l = option_map (told_after nothing) (all_members (lines_of l.fn.field))
    ≡ option_map (told_after l.told) (all_members (lines_of l.line-iterator))
