use Rattle.std.proofs.Common.{sym, ◌∙◌, subst}
use Rattle.server_connection.{specs.Connection.IsClosing, proofs.TurnLemmas.{cut_short, done_or_cut, empty, exchanged}}
use Rattle.server_connection.proofs.connection.ServerConnection.is_done.Goals as goal

pub returns-in-Closing-clause-exchanged : goal.returns-in-Closing-clause-exchanged
returns-in-Closing-clause-exchanged g c = λ config first now received sent x.
    let m = c.args.self.now.machine in
    exchanged c.is_empty.result x (λ p.
    done_or_cut g.A.Application.plans g.A.Application.gives first now m p c.is_empty.result
    (λ none. empty m.output.items (sym c.is_empty.ensures ∙ none)) (subst IsClosing (sym c.in-Closing.is) tt))

pub returns-in_default-clause-exchanged : goal.returns-in_default-clause-exchanged
returns-in_default-clause-exchanged g c = λ config first now received sent x. cut_short x
