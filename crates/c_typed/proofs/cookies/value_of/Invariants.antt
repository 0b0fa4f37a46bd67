use Rattle.{std.proofs.Common.◌≡◌, headers_items.specs.Pairs.{first_value, pairs_left}}
use Rattle.c_typed.proofs.cookies.value_of.Given as goal

abbrev pub invariant-loop-key : goal.invariant-loop-key
invariant-loop-key l =
    first_value l.name (pairs_left l.initial.key-iterator) ≡ first_value l.name (pairs_left l.key-iterator)
