use Rattle.headers_conditional.proofs.ConditionLemmas.{none_match_text, none_match_own_text, none_match_own_no_text}
use Rattle.headers_conditional.proofs.if_none_match.if_none_match_of_own_tag.Goals as goal

pub returns-clause-text : goal.returns-clause-text
returns-clause-text c = none_match_own_text

pub returns-clause-others : goal.returns-clause-others
returns-clause-others c = none_match_text

pub returns-clause-no_text : goal.returns-clause-no_text
returns-clause-no_text c = none_match_own_no_text
