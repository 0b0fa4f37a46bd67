use Rattle.{std.proofs.Common.{◌≡◌, ◌++◌, ◌∙◌, ap, map, filter}, http_header.specs.HeaderMap.pairs}
use Rattle.{headers.specs.LineMap.lines_at, gateway_messages.specs.FieldLines.{Field, field_of, fields_of}}
use Rattle.gateway_messages.specs.{Forwarding.{goes_on, own_fields}, HopByHop.connection_options, Messages.message_of}
use Rattle.gateway_messages.proofs.ForwardLemmas.{forwards}
use Rattle.gateway_messages.proofs.message.forwarded_fields.Goals as goal

pub returns : goal.returns
returns c = let gateway = c.args.gateway.now in
    let m = c.args.message.now in
    let message = message_of c.args.own.now in
    let received : fields_of c.in_ok-fields.fields.items ≡ filter
    (λ (field : Field). goes_on gateway message (connection_options (lines_at m)) field.0)
    (map field_of (pairs m)) = rw c.get_all-connection.ensures.value at c.in_ok-fields.ensures in
    forwards gateway message m c.keys_len-names.ensures.valid.unique c.requires.unprotected _
    (c.in_ok-push_own.ensures ∙ ap (λ fields. fields ++ own_fields gateway.pseudonym message) received)
