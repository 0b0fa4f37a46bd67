use Rattle.std.{proofs.Common.{rules, tests}, proofs.lemmas.Iterator.cases_from_all, specs.Path.path_buf_bytes}
use Rattle.std.specs.Path.{path_components}
use Rattle.server_program.proofs.PlaceLemmas.{IsDown, IsUp, YieldsList-from_components, none_is_up}
use Rattle.server_program.proofs.place.has_no_way_up.Goals as goal

pub returns : goal.returns
returns c =
    let parts = path_components (path_buf_bytes c.args.path.now) in
    none_is_up parts c.all.result (cases_from_all c.all.new.self _ c.all.result IsDown IsUp c.all.ensures.ran
    (YieldsList-from_components parts c.components.ensures)
    (λ x q k. search (rules, tests)) (λ x q k. search (rules, tests)))
