use Rattle.c_decisions.proofs.cors.answer_by.Goals as goal

pub returns : goal.returns
returns c =
    let method = c.in_ok-method.ensures in
    record {
      is_method = method.0;
      asked = c.in_ok-fields.fields;
      is_asked = c.in_ok-fields.ensures;
      told = c.in_ok-response.response;
      is_told = c.in_ok-response.ensures;
      answer = c.in_ok-answer.answer;
      is_answer = rw method.1 at c.in_ok-answer.ensures;
      is_shown = c.in_ok-show_shared.ensures;
    }
