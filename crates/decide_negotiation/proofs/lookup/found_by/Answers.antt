use Rattle.{std.proofs.Common.{◌≡◌, ◌∙◌, true, false, Some, sym}, headers_syntax.specs.Lines.lines_of}
use Rattle.{rfc_fields.specs.Members.{field_members, member_of}, decide_negotiation.specs.Languages.language_element_of}
use Rattle.decide_negotiation.{specs.{Elements.element_parts, MediaRanges.is_star}, proofs.LookupLemmas.finds_nothing}
use Rattle.decide_negotiation.proofs.LookupLemmas.{range_finds, range_finds_nothing}
use Rattle.decide_negotiation.proofs.lookup.found_by.Goals as goal

pub returns-in-Some-nearest : goal.returns-in-Some-nearest
returns-in-Some-nearest c =
    let field = field_members true (lines_of c.args.field.now) in
    let e = element_parts c.in-Some.element in
    let is : language_element_of (member_of c.args.member) ≡ Some e = sym c.in-Some.ensures in
    let range : is_star e.range ≡ false = sym c.is_star.ensures ∙ c.if-is_star.false in
    rw (← c.from.ensures) at (range_finds field _ _ e is _ range c.in-Some-nearest.ensures)

pub returns-in-None-nearest : goal.returns-in-None-nearest
returns-in-None-nearest c =
    let field = field_members true (lines_of c.args.field.now) in
    let e = element_parts c.in-Some.element in
    let is : language_element_of (member_of c.args.member) ≡ Some e = sym c.in-Some.ensures in
    let range : is_star e.range ≡ false = sym c.is_star.ensures ∙ c.if-is_star.false in
    finds_nothing field _ _ (range_finds_nothing field _ _ e is range c.in-None-nearest.ensures)
