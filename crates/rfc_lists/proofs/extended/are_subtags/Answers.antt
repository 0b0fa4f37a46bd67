use Rattle.{std.proofs.Common.{◌∙◌, sym}, rfc_lists.proofs.ExtendedLemmas.{subtags-last, subtags-next, subtags-wrong}}
use Rattle.rfc_lists.proofs.extended.are_subtags.Goals as goal

pub returns-then-not-is_subtag : goal.returns-then-not-is_subtag
returns-then-not-is_subtag c =
    let cut = rw c.in-Some.is at (sym c.cut.ensures) in
    let wrong = sym c.is_subtag.ensures ∙ c.if-not-is_subtag.true in
    subtags-wrong c.loop-subtag.left.now _ _ cut _ wrong c.loop-subtag.invariant

pub loop-subtag-preserved : goal.loop-subtag-preserved
loop-subtag-preserved c =
    let cut = rw c.in-Some.is at (sym c.cut.ensures) in
    let right = sym c.is_subtag.ensures ∙ c.if-not-is_subtag.false in
    subtags-next c.loop-subtag.left.now _ _ cut _ right c.loop-subtag.invariant

pub returns : goal.returns
returns c =
    let none = rw c.in_default.is at (sym c.cut.ensures) in
    c.is_subtag-2.ensures ∙ subtags-last c.loop-subtag.left.now _ none c.loop-subtag.invariant
