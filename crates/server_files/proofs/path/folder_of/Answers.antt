use Rattle.std.{proofs.Common.{◌≡◌, ◌++◌, List, ℕ, ap, sym, ◌∙◌}, specs.Prelude.codes}
use Rattle.server_files.proofs.PathLemmas.{folder_from}
use Rattle.server_files.proofs.path.folder_of.Goals as goal

pub returns-in-Some : goal.returns-in-Some
returns-in-Some c =
    let cut = c.in-Some.ensures.cases in
    let path = c.args.path.now in
    let is : path ≡ c.in-Some.folder.now ++ codes "index.html" =
    cut.1.1 ∙ ap (λ (f : List ℕ). f ++ codes "index.html") (sym cut.2) in
    folder_from path c.in-Some.folder.now is c.folder_if_named.result c.folder_if_named.ensures

pub returns-in-None : goal.returns-in-None
returns-in-None c = λ folder index. c.in-None.ensures.cases folder index.1
