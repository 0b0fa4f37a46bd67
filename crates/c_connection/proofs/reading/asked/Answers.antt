use Rattle.std.proofs.Common.{rules, inl, inr, refl}
use Rattle.c_connection.proofs.reading.asked.Goals as goal

pub returns-then-not-is_asking-clause-failed : goal.returns-then-not-is_asking-clause-failed
returns-then-not-is_asking-clause-failed c = inr (search rules, refl)

pub returns-in-Some-clause-given : goal.returns-in-Some-clause-given
returns-in-Some-clause-given c = inl (search rules, search rules)

pub returns-in-None-clause-failed : goal.returns-in-None-clause-failed
returns-in-None-clause-failed c = inl (search rules, search rules)
