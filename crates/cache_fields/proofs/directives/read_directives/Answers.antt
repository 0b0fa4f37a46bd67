use Rattle.{std.proofs.Common.{◌≡◌, ◌∙◌, List, Some, ap, sym}, rfc_fields.specs.Directives.directive_parts}
use Rattle.{rfc_fields.specs.{Members.{field_left, member_of}, Scan.Member}, cache_fields.specs.Directives.said_in}
use Rattle.cache_fields.proofs.DirectiveLemmas.{directed-ends, directed-next, directed_after}
use Rattle.cache_fields.proofs.directives.read_directives.Goals as goal

pub loop-member-preserved : goal.loop-member-preserved
loop-member-preserved c =
    let said : said_in (member_of c.in-Some.member) ≡ Some (directive_parts c.in-Some-said_in.directive) =
    sym (rw c.in-Some-said_in.is at c.said_in.ensures) in
    rw (c.with_later-directives.ensures, c.directs.ensures) (c.loop-member.invariant
    ∙ ap (λ (left : List Member). directed_after c.loop-member.directives left) c.in-Some.ensures.steps
    ∙ directed-next c.loop-member.directives (directive_parts c.in-Some-said_in.directive)
    (member_of c.in-Some.member) (field_left c.next.new.self) said)

pub returns : goal.returns
returns c = sym (c.loop-member.invariant
    ∙ ap (λ (left : List Member). directed_after c.loop-member.directives left) c.in-None.ensures.steps.0
    ∙ directed-ends c.loop-member.directives)
