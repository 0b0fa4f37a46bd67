use Rattle.rfc_fields.proofs.DirectiveInLemmas.{directive_in-from, directive_in-is}
use Rattle.rfc_fields.proofs.laws.directives_follow_the_grammar.Goals as goal

pub returns : goal.returns
returns c = λ text directive. (directive_in-is text directive, directive_in-from text directive)
