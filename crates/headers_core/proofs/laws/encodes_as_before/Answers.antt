use Rattle.headers_core.proofs.laws.encodes_as_before.Goals as goal

pub returns-clause-writes : goal.returns-clause-writes
returns-clause-writes g c lines v w first second =
    let laws = g.met.H.Header.laws in
    laws.writes_same w v (laws.reads_once (g.H.Header.writes v) w v second (laws.reads_back lines v first))
