use Rattle.{std.proofs.Common.{◌≡◌, ◌-◌}, rfc_values.specs.Reader.in_near_century}
use Rattle.rfc_values.proofs.date_time.DateTime.in_near_century.Given as goal

abbrev pub invariant-loop-century : goal.invariant-loop-century
invariant-loop-century l = in_near_century l.now l.self 81 19 ≡ in_near_century l.now l.self (100 - l.century) l.century
