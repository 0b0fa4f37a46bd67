use Rattle.std.proofs.Common.{◌≡◌, ◌++◌, [], ◌∷◌, List, ℕ, take, drop, subst}
use Rattle.headers_section.{specs.Section.section, proofs.ReadLemmas.{IsRead-more, AreFields-from_read}}
use Rattle.headers_section.proofs.ReadLemmas.{HasNoField-from_line, IfNone-at_none, IfSome-at_some}
use Rattle.headers_section.proofs.field.has_only_fields.Goals as goal

pub returns-then-is_none : goal.returns-then-is_none
returns-then-is_none c =
    let rest = c.loop-cut.rest in
    let end = c.in-Some.cut.end in
    let next = c.in-Some.cut.next in
    HasNoField-from_line _ rest c.loop-cut.invariant.0 c.loop-cut.invariant.1 (take end rest) (drop next rest)
    (rw c.as_slice.ensures at c.in-Some.ensures.some)
    (IfNone-at_none _ c.if-is_none.ensures c.in_ok-read_field.ensures.none)

pub loop-cut-preserved : goal.loop-cut-preserved
loop-cut-preserved c =
    let rest = c.loop-cut.rest in
    let end = c.in-Some.cut.end in
    let next = c.in-Some.cut.next in
    let fields = c.loop-cut.invariant.0 in
    let field = IfSome-at_some _ c.if-is_none.ensures c.in_ok-read_field.ensures.some in (
      fields ++ field.0 ∷ [],
      rw (← c.advance.ensures) at (IsRead-more _ rest fields c.loop-cut.invariant.1 (take end rest) (drop next rest)
          (rw c.as_slice.ensures at c.in-Some.ensures.some) field.0 field.1),
    )

pub returns : goal.returns
returns c = (
  c.loop-cut.invariant.0,
  AreFields-from_read c.args.input c.loop-cut.rest c.loop-cut.invariant.0 c.loop-cut.invariant.1
      (subst (λ (s : List ℕ). section s ≡ []) c.as_slice.ensures c.in_default.ensures.none),
)
