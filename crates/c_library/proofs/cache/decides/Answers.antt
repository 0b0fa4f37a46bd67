use Rattle.c_library.proofs.cache.decides.Goals as goal

pub returns : goal.returns
returns c = record {
  is_stored_method = c.in_ok-stored_method.ensures.0;
  is_method = c.in_ok-method.ensures.0;
  first = c.in_ok-stored_fields.stored_fields;
  is_first = c.in_ok-stored_fields.ensures;
  asked = c.in_ok-fields.fields;
  is_asked = c.in_ok-fields.ensures;
  told = c.in_ok-response.response;
  is_told = c.in_ok-response.ensures;
  decision = c.decide-decision.result;
  decides = rw (c.kind_of.ensures, c.times_of.ensures, c.in_ok-stored_method.ensures.1, c.in_ok-method.ensures.1) at
      c.decide-decision.ensures;
  number_is = c.decision_number.ensures;
}
