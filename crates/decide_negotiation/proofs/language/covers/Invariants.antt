use Rattle.{std.proofs.Common.{◌≡◌, drop}, decide_negotiation.specs.Languages.covers}
use Rattle.decide_negotiation.proofs.language.covers.Given as goal

abbrev pub invariant-loop-byte : goal.invariant-loop-byte
invariant-loop-byte l = covers l.range l.tag ≡ covers (drop l.byte-index l.range) l.rest
