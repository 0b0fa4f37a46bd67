use Rattle.std.proofs.Common.{◌≡◌, arith, inl, inr, ◌∙◌}
use Rattle.decide_resource.specs.{Answers.IsAnswer, Requests.head_of as as_head}
use Rattle.decide_resource.specs.{Requests.get_of, declared.answer.Answer.Answer}
use Rattle.server_laws.proofs.Served.{answered_as, get_is, present}
use Rattle.server_laws.proofs.laws.head_has_the_response_of_get.Goals as goal

pub returns : goal.returns
returns c now left site look get head response source is x =
    let asks = x.asks.2 in
    answered_as x (rw is.uri x.leads) (as_head x.asked) (x.asks.0, rw is.uri x.asks.1, grind arith) (elim x.decides [
      | inl h ↦ inl (h.0, answers x.answer h.1)
      | inr h ↦ inr (h.0, h.1, answers h.0 h.2, h.3)
    ])
  where
    same : get_of x.asked ≡ x.asked
    same = get_is x.asked (x.asks.2.method ∙ is.is_get) (rw x.asks.2.fields is.no_range)

    answers : (answer : Answer) → IsAnswer (present x) x.resource x.asked answer
        → IsAnswer (present x) x.resource (as_head x.asked) answer
    answers answer h = c.head_is_answered_as_get.ensures (present x) x.resource x.asked answer (rw same h)
