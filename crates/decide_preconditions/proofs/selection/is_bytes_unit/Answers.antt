use Rattle.std.{proofs.{Common.map, lemmas.Slice.Eq.bytes_eq-Decides}, specs.{Prelude.codes, Char.to_ascii_lowercase}}
use Rattle.decide_preconditions.proofs.TagLemmas.{bool_of}
use Rattle.decide_preconditions.proofs.selection.is_bytes_unit.Goals as goal

pub returns : goal.returns
returns c =
    let same = bytes_eq-Decides (map to_ascii_lowercase c.args.text.now) (codes "bytes=") in
    bool_of _ _ _ c.eq_ignore_ascii_case.ensures.test (same.0, same.1)
