use Rattle.std.proofs.Common.{◌∙◌, true, ap, refl, sym, rules, tests, fold}
use Rattle.std.proofs.lemmas.Iterator.Consumers.{YieldsList-from_first, fold_from_yields_List}
use Rattle.{headers_syntax.specs.Lines.lines_of, rfc_fields.specs.Members.{field_members, member_of, members_left}}
use Rattle.{rfc_fields.specs.Scan.Member, decide_negotiation.specs.Codings.{encoding_quality, member_quality}}
use Rattle.decide_negotiation.specs.{Codings.quality_of_all, Qualities.least, declared.acceptability.Quality.Quality}
use Rattle.decide_negotiation.proofs.coding.AcceptEncodingDimension.quality.Goals as goal

pub returns-in-Some : goal.returns-in-Some
unfolding encoding_quality
returns-in-Some c =
    let field = field_members true (lines_of c.args.field.now) in
    let lesser = λ (q : Quality) (m : Member). least q (member_quality field m) in
    let rest = members_left c.next.new.self in
    fold_from_yields_List _ lesser _ _ c.fold.ensures.ran (YieldsList-from_first member_of members_left rest refl)
    (λ a x b q k. search (rules, tests))
    ∙ ap (λ (q : Quality). fold lesser q rest) c.member_quality.ensures
    ∙ ap (quality_of_all field) (sym c.in-Some.ensures.steps ∙ c.new-codings.ensures.members)

pub returns-in-None : goal.returns-in-None
unfolding encoding_quality
returns-in-None c =
    let field = field_members true (lines_of c.args.field.now) in
    c.coding_quality.ensures ∙ ap (quality_of_all field) (sym c.in-None.ensures.steps.0 ∙ c.new-codings.ensures.members)
