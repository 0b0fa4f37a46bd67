use Rattle.std.{proofs.Common.{◌∙◌, ◌∷◌, List, ℕ, ap, refl, sym, length, take, arith}, specs.List.take_while}
use Rattle.std.proofs.lemmas.List.{take_all, drop_all}
use Rattle.headers_section.specs.Section.{without_return, is_filled, input_lines}
use Rattle.headers_section.proofs.SectionLemmas.{input_lines-none, input_lines-some, section-last}
use Rattle.headers_section.proofs.field.line_end.Goals as goal

pub returns-in-Some-clause-first : goal.returns-in-Some-clause-first
returns-in-Some-clause-first c =
    ap (take_while is_filled) (input_lines-some _ _ _ _ c.in-Some.ensures.0 c.in-Some.ensures.1 refl refl)

pub returns-in-None-clause-first : goal.returns-in-None-clause-first
returns-in-None-clause-first c =
    let rest = c.args.rest.now in
    let line = without_return (take (length rest) rest) in
    section-last rest line
    (input_lines-none rest line c.in-None.ensures (ap without_return (take_all (length rest) rest (omega arith))))
    ∙ ap (λ (after : List ℕ). take_while is_filled (line ∷ input_lines after))
    (sym (drop_all (length rest) rest (omega arith)))
