use Rattle.{std.proofs.Common.{◌≡◌, ◌++◌, drop}, gateway_messages.specs.FieldLines.fields_of}
use Rattle.gateway_exchange.proofs.pass.copies.Given as goal

abbrev pub invariant-loop-field : goal.invariant-loop-field
invariant-loop-field l = fields_of l.list.items ++ fields_of (drop l.field-index l.fields) ≡ fields_of l.fields
