use Rattle.{std.proofs.Common.{◌≡◌, option_copied, option_map}, rfc_values.specs.Dictionaries.{length_of, members_in}}
use Rattle.cache_fields.specs.Targets.{told_after}
use Rattle.cache_fields.proofs.targets.told_by_line.Given as goal

abbrev pub invariant-loop-rest : goal.invariant-loop-rest
invariant-loop-rest l = option_map (told_after l.initial.told) (members_in (option_copied l.initial.rest))
    ≡ option_map (told_after l.told) (members_in (option_copied l.rest))

abbrev pub decreases-loop-rest : goal.decreases-loop-rest
decreases-loop-rest l = length_of (option_copied l.rest)
