use Rattle.decide_cors.proofs.CheckLemmas.{absent_gets_none, listed_gets_its_own}
use Rattle.decide_cors.proofs.laws.listed_origin_changes_the_fields.Goals as goal

pub returns-clause-listed : goal.returns-clause-listed
returns-clause-listed c = listed_gets_its_own

pub returns-clause-absent : goal.returns-clause-absent
returns-clause-absent c = absent_gets_none
