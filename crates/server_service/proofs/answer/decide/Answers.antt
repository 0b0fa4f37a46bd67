use Rattle.std.{proofs.Common.{inl, inr}, proofs.lemmas.Result.IfOk-weaker}
use Rattle.decide_resource.specs.Requests.{head_of as as_head, request_of}
use Rattle.server_service.proofs.AnswerLemmas.{FitsIn-from_answer}
use Rattle.server_service.proofs.answer.decide.Goals as goal

pub returns-then-is_sendable-clause-answers : goal.returns-then-is_sendable-clause-answers
returns-then-is_sendable-clause-answers c = inl (c.if-is_sendable.ensures, c.in_ok-asked.ensures)

pub returns-then-is_sendable-clause-fits : goal.returns-then-is_sendable-clause-fits
returns-then-is_sendable-clause-fits c = FitsIn-from_answer c.args.present c.args.resource.now
    (request_of c.args.request.now) c.args.files.now c.requires c.in_ok-asked.asked c.in_ok-asked.ensures

pub returns-clause-answers : goal.returns-clause-answers
returns-clause-answers c = IfOk-weaker c.answer_request-2.result _ _
    (λ answer is. inr (c.in_ok-asked.asked, c.if-is_sendable.ensures, c.in_ok-asked.ensures, is))
    c.answer_request-2.ensures

pub returns-clause-fits : goal.returns-clause-fits
returns-clause-fits c = IfOk-weaker c.answer_request-2.result _ _
    (FitsIn-from_answer c.args.present c.args.resource.now (as_head (request_of c.args.request.now))
    c.args.files.now c.requires) c.answer_request-2.ensures
