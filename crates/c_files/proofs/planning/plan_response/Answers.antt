use Rattle.{std.proofs.Common.{rules, ◌≡◌, ℕ, List, Some, subst}, http.specs.declared.request.Request.Request}
use Rattle.{server_connection.specs.declared.machine.Phase.TheVariants.Asking, server_service.specs.Answer.IsAnswer}
use Rattle.c_files.{specs.Entries.entry_in, proofs.PlanLemmas.planned}
use Rattle.c_files.proofs.planning.plan_response.Goals as goal

pub returns : goal.returns
returns c =
    let connection = c.args.connection.now in
    let told = c.tell.new.files in
    let ready = c.in_ok-tell.ensures in
    let given = c.in_ok-plan.ensures in
    let asks : connection.machine.phase ≡ Asking = search rules in
    let answer = subst
    (λ (request : Request (List ℕ)). IsAnswer (λ time. time ≡ Some told.service.store.time) told.service.left
    told.service.site (λ path entry. entry ≡ entry_in told.service.store path) request c.plan.new.plan
    c.plan.new.self.source) c.request.ensures given.0 in
    planned c.args.found.now c.args.now c.args.is_last connection c.path_of.result.now c.args.files.now told
    (record { service = c.plan.new.self }) c.plan.new.plan c.number_of.result ready.0 asks c.path_of.ensures ready.1
    ready.2 ready.3 answer given.1 given.2 c.number_of.ensures
