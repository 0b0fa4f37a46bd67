use Rattle.{std.proofs.Common.{◌≡◌, option_map}, rfc_fields.specs.Members.members_left}
use Rattle.rfc_lists.specs.Named.{counted, named}
use Rattle.rfc_lists.proofs.named.named.Given as goal

abbrev pub invariant-loop-parameter : goal.invariant-loop-parameter
invariant-loop-parameter l = named l.counts l.name (members_left l.initial.parameter-iterator)
    ≡ counted l.counts (option_map (λ text. text.now) l.found)
    (named l.counts l.name (members_left l.parameter-iterator))
