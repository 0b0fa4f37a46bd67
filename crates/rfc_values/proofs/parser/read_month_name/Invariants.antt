use Rattle.{std.proofs.Common.{◌≡◌, ◌-◌, ◌≤◌}, httpdate.specs.{Text.month_name, Reader.read_name}}
use Rattle.rfc_values.proofs.parser.read_month_name.Given as goal

abbrev pub invariant-loop-month : goal.invariant-loop-month
invariant-loop-month l = record {
  counted : 1 ≤ l.month;
  left : read_name month_name 12 l.text ≡ read_name month_name (l.month - 1) l.text;
}
