use Rattle.{std.proofs.Common.{◌≡◌, ◌-◌, ◌≤◌}, httpdate.specs.{Text.day_name, Reader.read_name}}
use Rattle.rfc_values.proofs.parser.read_day_name.Given as goal

abbrev pub invariant-loop-weekday : goal.invariant-loop-weekday
invariant-loop-weekday l = record {
  counted : 1 ≤ l.weekday;
  left : read_name day_name 7 l.text ≡ read_name day_name (l.weekday - 1) l.text;
}
