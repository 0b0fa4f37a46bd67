use Rattle.{std.proofs.{Common.{◌≡◌, filter, map, rules}, lemmas.Result.IfOk-weaker}, http_header.specs.HeaderMap.pairs}
use Rattle.{headers.specs.LineMap.lines_at, gateway_messages.specs.FieldLines.{Field, field_of, fields_of}}
use Rattle.gateway_messages.specs.{HopByHop.connection_options, Trailers.trailer_goes_on}
use Rattle.gateway_messages.{specs.declared.framing.Framing.TheVariants.Chunked, proofs.TrailerLemmas.chunked_trailers}
use Rattle.gateway_messages.proofs.trailers.forward_trailers.Goals as goal

pub returns-clause-forwarded : goal.returns-clause-forwarded
returns-clause-forwarded c = let gateway = c.args.gateway.now in
    let message = lines_at c.args.message.now.fields.now in
    let chunked : c.args.message.now.framing ≡ Chunked = search rules in
    IfOk-weaker c.received_fields.result _ _ (λ sent e. let received : fields_of sent.items ≡ filter
    (λ (field : Field). trailer_goes_on gateway (connection_options message) field.0)
    (map field_of (pairs c.args.trailers.now)) = rw c.get_all-connection.ensures.value at e in
    chunked_trailers gateway message c.args.trailers.now c.keys_len-names.ensures.valid.unique
    (fields_of sent.items) received c.args.message.now.framing chunked) c.received_fields.ensures
