use Rattle.{std.proofs.Common.{refl, sym, subst, inl, inr}, server_connection.specs.Pieces.Advances}
use Rattle.server_connection.proofs.{PieceLemmas.sends_short, PopLemmas.{cuts_on, puts_on}}
use Rattle.server_connection.proofs.machine.Machine.fill.Goals as goal

pub returns-then-not-shorten : goal.returns-then-not-shorten
returns-then-not-shorten g c = λ now extent next given.
    let cut = c.abort.ensures in
    cuts_on (g.A.Application.gives now) c.args.self.now
    (record { rest = cut.rest; phase = cut.keeps.phase; state = cut.state; output = cut.output }) refl

pub returns : goal.returns
returns g c = λ now extent next given.
    let gives = g.A.Application.gives now in
    elim c.put.ensures [
      | inl puts ↦ puts_on gives c.args.self.now puts refl
          (subst (Advances gives c.args.self.now.left.items c.args.bytes.now) (sym puts.left)
          (sends_short gives c.args.bytes.now next.3 (c.shorten.ensures.shortens c.if-not-shorten.false) given))
      | inr cut ↦ cuts_on gives c.args.self.now cut refl
    ]
