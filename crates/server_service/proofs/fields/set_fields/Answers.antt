use Rattle.std.proofs.Common.{List, ◌++◌, ◌-◌, ap, append-nil, append_assoc, drop, length, sym, take, ◌∙◌}
use Rattle.headers.specs.LineMap.{field_of, fields_of as encoded_fields}
use Rattle.{headers.specs.declared.Encoded.Encoded, http1.specs.Fields.Header, server_service.specs.Response.fields_of}
use Rattle.server_service.{specs.Response.{headers_set, is_named, lines_unless}, proofs.FieldLemmas.headers_set-next}
use Rattle.server_service.proofs.FieldLemmas.{headers_set-none}
use Rattle.server_service.proofs.fields.set_fields.Goals as goal

pub loop-rest-preserved : goal.loop-rest-preserved
loop-rest-preserved c =
    let before : List Header = fields_of c.loop-rest.response in
    let rest : List Encoded = c.loop-rest.rest.now in
    let later : List Encoded = take (length rest - 1) (drop 1 rest) in
    let field : Encoded = c.field-item.result in (
      ap (λ (l : List Header). l ++ headers_set (encoded_fields later)) c.in_ok-set_field.ensures.headers
          ∙ append_assoc before (lines_unless (is_named field.name (encoded_fields later)) (field_of field))
          (headers_set (encoded_fields later))
          ∙ ap (λ (l : List Header). before ++ l)
          (sym (headers_set-next rest field c.in-len1-up.len_at_least c.field-item.is))
          ∙ c.loop-rest.invariant.0,
      c.in_ok-set_field.ensures.status ∙ c.loop-rest.invariant.1,
      c.in_ok-set_field.ensures.pieces ∙ c.loop-rest.invariant.2,
    )

pub returns-clause-headers : goal.returns-clause-headers
returns-clause-headers c = sym (append-nil (fields_of c.loop-rest.response))
    ∙ ap (λ (l : List Header). fields_of c.loop-rest.response ++ l)
    (sym (headers_set-none c.loop-rest.rest.now c.in_default.len_below))
    ∙ c.loop-rest.invariant.0
