use Rattle.httpdate.{proofs.ReaderLemmas.{read_name_below, read_name_here}, specs.Reader.{read_name, read_tag}}
use Rattle.{httpdate.specs.Text.month_name, std.proofs.Common.{ap, arith, sym, ◌-◌, ◌∙◌}}
use Rattle.rfc_values.proofs.parser.read_month_name.Goals as goal

pub returns-in-Some-clause-value : goal.returns-in-Some-clause-value
returns-in-Some-clause-value c =
    let found = c.in-Some.ensures ∙ ap (λ name. read_tag name c.args.text.now) c.month_name.ensures in
    sym (c.loop-month.invariant.left ∙ read_name_here month_name _ _ _ (omega arith) found)

pub loop-month-preserved : goal.loop-month-preserved
loop-month-preserved c = grind (arith, read_name_below)

pub returns-clause-value : goal.returns-clause-value
unfolding read_name
returns-clause-value c = grind arith
