use Rattle.{std.proofs.Common.{◌≡◌, ◌∷◌, [], codes}, headers.specs.LineMap.set_all}
use Rattle.{server_service.specs.Response.fields_of, server_laws.{specs.Answered.lines_in, proofs.Served.answered}}
use Rattle.server_laws.proofs.Served.{check_alike, given, nothing, present, read_as_set, resource}
use Rattle.server_laws.proofs.laws.response_is_shared_by_the_policy.Goals as goal

pub returns : goal.returns
returns c now left site look request response source policy rules sent x cors lawful made origin =
    let a = answered x in
    let asked : a.0.fields (codes "origin") ≡ sent.origin ∷ [] = rw (a.1, x.asks.2.fields) origin in
    let law = c.answer_is_shared_by_rules.ensures (present x) (resource x) a.0 x.answer rules policy nothing sent cors
    a.4 lawful made asked in
    let by = check_alike _ _ sent (read_as_set x cors) in
    (λ passes. law.0 (by.0 passes), λ allows. by.1 (law.1 allows))
