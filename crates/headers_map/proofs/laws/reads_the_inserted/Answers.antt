use Rattle.headers_map.proofs.LastReadLemmas.{inserted_read}
use Rattle.headers_map.proofs.laws.reads_the_inserted.Goals as goal

pub returns : goal.returns
returns g c map =
    let h = g.H.Header in inserted_read h.same h.reads h.writes g.met.H.Header.laws map h.field_name
