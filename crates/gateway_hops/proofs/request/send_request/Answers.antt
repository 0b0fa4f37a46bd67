use Rattle.std.proofs.Common.{◌∙◌, List, ap, refl, rules}
use Rattle.headers.specs.LineMap as Encodings
use Rattle.{gateway_messages.specs.FieldLines.fields_of, gateway_hops.specs.Replaced.replaced_by}
use Rattle.gateway_hops.proofs.request.send_request.Goals as goal

pub returns-then-lacks_length-clause-ok : goal.returns-then-lacks_length-clause-ok
returns-then-lacks_length-clause-ok c = record {
  forwarded = c.in-Forward.forwarded;
  forwards = rw c.in-Forward.is at c.in_ok-forwarded.ensures.ok;
  lacks = search rules;
}

pub returns-clause-ok : goal.returns-clause-ok
returns-clause-ok c =
    let forwarded = c.in-Forward.forwarded in
    record {
      forwarded = forwarded;
      forwards = rw c.in-Forward.is at c.in_ok-forwarded.ensures.ok;
      expectation = c.expectation_of-expectation.ensures;
      framing = refl;
      hops = refl;
      has_length = search rules;
      fields = c.in_ok-replace_fields.ensures
          ∙ ap (λ (own : List Encodings.Field). replaced_by own (fields_of forwarded.fields.items)) c.in_ok-own.ensures;
    }
