use Rattle.{std.proofs.Common.{◌≡◌, drop}, rfc_fields.specs.{Scan.end_from, declared.scan.State.TheVariants.Outside}}
use Rattle.rfc_fields.proofs.scan.end_from.Given as goal

abbrev pub invariant-loop-place : goal.invariant-loop-place
invariant-loop-place l = end_from l.separator l.pairs Outside l.from (drop l.from l.text)
    ≡ end_from l.separator l.pairs l.state l.place (drop l.place l.text)
