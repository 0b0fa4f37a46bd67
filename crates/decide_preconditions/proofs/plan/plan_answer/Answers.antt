use Rattle.decide_preconditions.proofs.plan.plan_answer.Goals as goal

pub returns-in-Failed-clause-plan : goal.returns-in-Failed-clause-plan
returns-in-Failed-clause-plan c = rw c.in-Failed.is at c.evaluate.ensures

pub returns-in-NotModified-clause-plan : goal.returns-in-NotModified-clause-plan
returns-in-NotModified-clause-plan c = rw c.in-NotModified.is at c.evaluate.ensures
