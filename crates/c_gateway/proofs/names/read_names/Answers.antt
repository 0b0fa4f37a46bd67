use Rattle.{c_parts.specs.FieldText.field_lines, c_gateway.proofs.NameLemmas.All-values}
use Rattle.c_gateway.proofs.names.read_names.Goals as goal

pub returns-in-None : goal.returns-in-None
returns-in-None c names =
    let none = rw c.in-None.is at c.in_ok-lines.ensures.none in
    none (All-values (field_lines c.args.text.now) names)
