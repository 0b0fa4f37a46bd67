use Rattle.std.proofs.{Common.{◌∙◌, ap, drop, length, arith}, lemmas.{List.drop-drop, Slice.between_to_end}}
use Rattle.headers_section.{specs.Section.without_return, proofs.SectionLemmas.{input_lines-none, input_lines-some}}
use Rattle.c_parts.proofs.lines.cut_line.Goals as goal

pub returns-in-Some-clause-more : goal.returns-in-Some-clause-more
returns-in-Some-clause-more c =
    let text = c.args.text.now in
    let end = c.in-Some.end in
    let rest = c.split_at.result.1.now in
    input_lines-some text end c.without_last.result.now _ c.in-Some.ensures.0 c.in-Some.ensures.1
    (c.without_last.ensures ∙ ap without_return c.split_at.ensures.front)
    (between_to_end rest 1 (length rest) (omega arith) ∙ ap (drop 1) c.split_at.ensures.back ∙ drop-drop 1 end text)

pub returns-in-None-clause-last : goal.returns-in-None-clause-last
returns-in-None-clause-last c = input_lines-none c.args.text.now _ c.in-None.ensures c.without_last-in-None.ensures
