use Rattle.std.proofs.{Common.{rules, ◌∙◌}, lemmas.Iterator.{YieldsList-from_slice, Search.any_from_yields_List}}
use Rattle.c_parts.proofs.FlagLemmas.{in_line, set_in_lines}
use Rattle.c_parts.proofs.flags.has_flag.Goals as goal

pub returns : goal.returns
returns c = any_from_yields_List (in_line c.args.flag.now) _ _ c.any.result c.any.ensures.ran
    (YieldsList-from_slice c.args.lines.now cc) (λ x b q k. search rules)
    ∙ set_in_lines c.args.flag.now c.args.lines.now
