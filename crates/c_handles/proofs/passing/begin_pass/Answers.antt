use Rattle.{std.proofs.Common.rules, c_handles.proofs.PassLemmas.lost_through}
use Rattle.c_handles.proofs.passing.begin_pass.Goals as goal

pub returns : goal.returns
returns c = lost_through c.args.request.now c.args.now c.args.cache.now.held c.put-2.new.self.held c.args.pass.now.held
    c.take.new.self.held c.deref_mut.result.now c.begin_in-begun.new.cache c.in_ok-stepped.stepped c.in_ok-stepped.facts
    (search rules) (search rules) (search rules) (search rules) (search rules)
