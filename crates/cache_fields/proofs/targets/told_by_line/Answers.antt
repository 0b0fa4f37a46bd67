use Rattle.std.proofs.Common.{◌<◌, ◌∙◌, ap, sym, subst, option_copied, option_map}
use Rattle.rfc_values.{specs.Dictionaries.{length_of, members_in}, specs.Values.entry_of}
use Rattle.rfc_values.proofs.DictionaryLemmas.{entry-smaller}
use Rattle.cache_fields.{specs.Targets.told_after, specs.declared.directives.Directives.Directives}
use Rattle.cache_fields.proofs.TargetLemmas.{line-end, line-malformed, line-next}
use Rattle.cache_fields.proofs.targets.told_by_line.Goals as goal

pub returns-in_err-entry : goal.returns-in_err-entry
returns-in_err-entry c = c.from_residual.ensures
    ∙ sym (c.loop-rest.invariant
    ∙ ap (λ r. option_map (told_after c.loop-rest.told) (members_in (option_copied r))) c.in-Some.is
    ∙ line-malformed c.loop-rest.told c.in-Some.text.now (sym c.in_err-entry.ensures))

pub loop-rest-smaller : goal.loop-rest-smaller
loop-rest-smaller c = subst (λ r. length_of (option_copied c.in_ok-entry.entry.next) < length_of (option_copied r))
    (sym c.in-Some.is) (entry-smaller c.in-Some.text.now (entry_of c.in_ok-entry.entry) (sym c.in_ok-entry.ensures))

pub loop-rest-preserved : goal.loop-rest-preserved
loop-rest-preserved c = c.loop-rest.invariant
    ∙ ap (λ r. option_map (told_after c.loop-rest.told) (members_in (option_copied r))) c.in-Some.is
    ∙ line-next c.loop-rest.told c.in-Some.text.now (entry_of c.in_ok-entry.entry) (sym c.in_ok-entry.ensures)
    ∙ ap (λ (d : Directives). option_map (told_after d) (members_in (option_copied c.in_ok-entry.entry.next)))
    (sym c.with_member-told.ensures)

pub returns : goal.returns
returns c = sym (c.loop-rest.invariant
    ∙ ap (λ r. option_map (told_after c.loop-rest.told) (members_in (option_copied r))) c.in_default.is
    ∙ line-end c.loop-rest.told)
