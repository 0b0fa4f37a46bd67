use Rattle.{std.proofs.Common.{subst, sym, List, All, Any, ◌↔◌}, decide_preconditions.specs.Parts.{Holds, IsPartOf}}
use Rattle.decide_preconditions.specs.{RangeSets.elements, Selection.IsAsked, declared.part.Part.Part}
use Rattle.decide_preconditions.proofs.{PartLemmas.IsJoined-same, RangeSetLemmas.{parts_cover, parts_within}}
use Rattle.decide_preconditions.proofs.selection.parts_asked.Goals as goal

pub coalesce-requires : goal.coalesce-requires
coalesce-requires c = subst (λ (parts : List Part). All (IsPartOf c.args.len) parts) (sym c.in_ok-parts.ensures)
    (parts_within c.args.len (elements c.args.set.now))

pub returns-clause-covers : goal.returns-clause-covers
returns-clause-covers c = λ p.
    let joined = c.coalesce.ensures.same p in
    let same = IsJoined-same c.args.gap _ (IsAsked c.args.len c.args.set.now) p (λ q.
    subst (λ (parts : List Part). Any (Holds q) parts ↔ IsAsked c.args.len c.args.set.now q)
    (sym c.in_ok-parts.ensures) (parts_cover c.args.len q (elements c.args.set.now))) in
    ((λ a. same.0 (joined.0 a)), (λ a. joined.1 (same.1 a)))
