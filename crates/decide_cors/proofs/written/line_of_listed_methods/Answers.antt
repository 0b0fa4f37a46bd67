use Rattle.{std.proofs.{Common.rules, lemmas.Result.IfOk-weaker}, headers.specs.ListItem.method_of}
use Rattle.decide_cors.proofs.WrittenLemmas.{listed_values_by}
use Rattle.decide_cors.proofs.written.line_of_listed_methods.Goals as goal

pub returns : goal.returns
returns c = IfOk-weaker c.line_of.result _ _ (λ line written. listed_values_by method_of _ _ _ line.bytes
    c.into_iter.ensures.rest (search rules) c.in_ok-header.ensures written) c.line_of.ensures
