use Rattle.{std.proofs.Common.{rules, None}, decide_cors.{specs.Rules.RefusesReading, proofs.RefusalLemmas.lawful_by}}
use Rattle.decide_cors.proofs.policy.CorsPolicy.new.Goals as goal

pub returns-clause-ok : goal.returns-clause-ok
returns-clause-ok c =
    let readable : RefusesReading c.args.rules None = search rules in
    lawful_by c.args.rules c.written_of.result readable c.written_of.ensures.ok
