use Rattle.std.proofs.Common.{◌≡◌, ℕ, ◌<◌, List, [], length, refl, inl, inr, ap, subst, arith}
use Rattle.{std.proofs.lemmas.Bool.Decides.nat_tests, server_connection.specs.declared.machine.Machine.Machine}
use Rattle.server_connection.specs.{declared.piece.OpenRange.OpenRange, Machine.{HasNoRange, IsNextRange, OffersCount}}
use Rattle.c_connection.proofs.moving.sent_in.Goals.{in-Some, in_default, in_default-via-in-Some+else-is_empty}
use Rattle.c_connection.proofs.moving.sent_in.Goals.{in_default-via-in_default}
use Rattle.c_connection.proofs.moving.sent_in.Goals as goal

-- more than the range has, where no other bytes wait
more_than_range : (m : Machine) (count : ℕ) (extent : OpenRange) → IsNextRange m extent → length m.output.items ≡ 0
    → extent.len < count → OffersCount m count → ⊥
more_than_range m count extent next empty more (inl le) = omega (arith, empty, more, le)
more_than_range m count extent next empty more (inr (_, other, also, le)) =
    let same : extent ≡ other = cc (next.3, also.3) in
    omega (arith, ap (λ (e : OpenRange). e.len) same, more, le)

-- more than the bytes that wait, where no range is next once they went
more_than_output : (m : Machine) (count : ℕ) → (m.output.items ≡ [] → HasNoRange m)
    → length m.output.items < count → OffersCount m count → ⊥
more_than_output m count none more (inl le) = omega (arith, more, le)
more_than_output m count none more (inr (empty, other, also, le)) = none empty other also

pub returns-then-count-offered : goal.returns-then-count-offered
returns-then-count-offered c = (
  refl,
  refl,
  elim c.match-range.branch [
    | in-Some w ↦
        let none : length w.output.result.now ≡ 0 = grind (arith, nat_tests, w.is_empty.ensures, w.if-is_empty.true) in
        more_than_range c.args.held.now.connection.machine c.args.count w.in-Some.extent w.in-Some.ensures.some
        (subst (λ (bytes : List ℕ). length bytes ≡ 0) w.output.ensures none)
        (subst (λ (n : ℕ). n < c.args.count) w.offered-is c.if-count-offered.true)
    | in_default w ↦
        more_than_output c.args.held.now.connection.machine c.args.count (elim w.in_default.branch [
          | in_default-via-in-Some+else-is_empty v ↦ λ empty extent next.
              let filled : 0 < length v.output.result.now =
              grind (arith, nat_tests, v.is_empty.ensures, v.if-is_empty.false) in
              omega (arith, filled, ap length v.output.ensures, ap length empty)
          | in_default-via-in_default v ↦ λ empty. v.in_default.ensures.none
        ]) (omega (arith, c.if-count-offered.true, w.offered-is, ap length w.output-in_default.ensures))
  ],
)
