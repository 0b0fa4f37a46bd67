use Rattle.{gateway_messages.specs.FieldLines.fields_of, c_gate.proofs.AnswerLemmas.adds}
use Rattle.c_gate.proofs.answering.add_in.Goals as goal

pub returns : goal.returns
returns c = adds c.args.section.now c.in_ok-fields.fields (fields_of c.in_ok-added.added.items) c.args.gate.now
    c.add_lines.new.gate c.add_lines.result c.in_ok-fields.ensures c.in_ok-added.ensures c.add_lines.ensures
