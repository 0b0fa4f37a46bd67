use Rattle.{std.{proofs.Common.◌≡◌, specs.List.list_all}, headers.specs.Lines.lines_of}
use Rattle.rfc_fields.specs.Members.{is_well_formed}
use Rattle.gateway_hops.proofs.fields.are_well_formed.Given as goal

abbrev pub invariant-loop-line : goal.invariant-loop-line
invariant-loop-line l =
    list_all is_well_formed (lines_of l.line-iterator) ≡ list_all is_well_formed (lines_of l.received)
