use Rattle.headers_map.proofs.InsertLemmas.{IsRefusedPut-from_parts}
use Rattle.headers_map.proofs.ext.HeaderMapHeaderMapExt.typed_insert.Goals as goal

pub returns-clause-err : goal.returns-clause-err
returns-clause-err g c =
    rw (← c.in_ok-name.ensures.name, ← c.in_ok-name.ensures.lines)
    (IsRefusedPut-from_parts c.args.self.now c.put_lines.new.map c.in_ok-name.field-0.name
    c.in_ok-name.field-0.lines.items c.put_lines.result
    c.put_lines.ensures.left c.put_lines.ensures.full c.put_lines.ensures.replaces)
