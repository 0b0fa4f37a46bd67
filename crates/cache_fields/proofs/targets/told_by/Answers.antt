use Rattle.{std.proofs.Common.{◌∙◌, ap, sym, option_map}, headers_syntax.specs.{Lines.lines_of, Text.trim}}
use Rattle.{rfc_values.specs.Dictionaries.dictionary, cache_fields.specs.Targets.{all_members, told_after}}
use Rattle.cache_fields.proofs.TargetLemmas.{lines-next}
use Rattle.cache_fields.proofs.targets.told_by.Goals as goal

pub loop-line-preserved : goal.loop-line-preserved
loop-line-preserved c =
    let read = ap (λ t. option_map (told_after c.loop-line.told) (dictionary t))
    (sym (c.trim.ensures ∙ ap trim c.as_bytes.ensures.value))
    ∙ sym c.in_ok-told.ensures in
    c.loop-line.invariant
    ∙ ap (λ vs. option_map (told_after c.loop-line.told) (all_members (lines_of vs))) c.in-Some.ensures.steps
    ∙ lines-next c.loop-line.told c.in_ok-told.told c.in-Some.line.now.bytes (lines_of c.next.new.self) read
