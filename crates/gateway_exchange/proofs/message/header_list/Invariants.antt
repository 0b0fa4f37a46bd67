use Rattle.{std.proofs.Common.{◌≡◌, take}, http1.specs.Head.pairs, gateway_messages.specs.FieldLines.fields_of}
use Rattle.gateway_exchange.proofs.message.header_list.Given as goal

abbrev pub invariant-loop-field : goal.invariant-loop-field
invariant-loop-field l = pairs l.list.items ≡ fields_of (take l.field-index l.fields)
