use Rattle.httpdate.{proofs.ReaderLemmas.{read_name_below, read_name_here}, specs.Reader.{read_name, read_tag}}
use Rattle.{httpdate.specs.Text.day_name, std.proofs.Common.{ap, arith, sym, ◌-◌, ◌∙◌}}
use Rattle.rfc_values.proofs.parser.read_day_name.Goals as goal

pub returns-in-Some-clause-value : goal.returns-in-Some-clause-value
returns-in-Some-clause-value c =
    let found = c.in-Some.ensures ∙ ap (λ name. read_tag name c.args.text.now) c.day_name.ensures in
    sym (c.loop-weekday.invariant.left ∙ read_name_here day_name _ _ _ (omega arith) found)

pub loop-weekday-preserved : goal.loop-weekday-preserved
loop-weekday-preserved c = grind (arith, read_name_below)

pub returns-clause-value : goal.returns-clause-value
unfolding read_name
returns-clause-value c = grind arith
