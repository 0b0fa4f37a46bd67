use Rattle.headers_map.{proofs.StepLemmas.run-last, proofs.LastReadLemmas.{last_read, last_canonical}}
use Rattle.headers_map.proofs.laws.reads_the_last_put.Goals as goal

pub returns-clause-lines : goal.returns-clause-lines
returns-clause-lines g c = run-last

pub returns-clause-typed : goal.returns-clause-typed
returns-clause-typed g c map steps =
    let h = g.H.Header in last_read h.same h.reads h.writes g.met.H.Header.laws map steps h.field_name

pub returns-clause-canonical : goal.returns-clause-canonical
returns-clause-canonical g c map steps =
    let h = g.H.Header in last_canonical h.same h.reads h.writes g.met.H.Header.laws map steps h.field_name
