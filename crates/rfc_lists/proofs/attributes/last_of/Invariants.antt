use Rattle.{std.{proofs.Common.{◌≡◌, length, option_map}, specs.Option.option_or}, rfc_lists.specs.Attributes.last_of}
use Rattle.rfc_lists.proofs.attributes.last_of.Given as goal

abbrev pub invariant-loop-attribute : goal.invariant-loop-attribute
invariant-loop-attribute l =
    last_of l.known l.attributes ≡ option_or (last_of l.known l.left) (option_map (λ value. value.now) l.last)

abbrev pub decreases-loop-attribute : goal.decreases-loop-attribute
decreases-loop-attribute l = length l.left
