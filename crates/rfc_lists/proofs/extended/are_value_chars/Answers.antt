use Rattle.{std.proofs.Common.{None, sym}, rfc_lists.proofs.ExtendedLemmas.{chars-next, chars-end}}
use Rattle.rfc_lists.proofs.extended.are_value_chars.Goals as goal

pub returns-in-None : goal.returns-in-None
returns-in-None c = sym (chars-next _ _ _ _ None c.loop-byte-test.true c.in-None.ensures c.loop-byte.invariant)

pub loop-byte-preserved : goal.loop-byte-preserved
loop-byte-preserved c = chars-next _ _ _ _ _ c.loop-byte-test.true c.in-Some.ensures c.loop-byte.invariant

pub returns : goal.returns
returns c = sym (chars-end _ _ _ _ c.loop-byte-test.false c.loop-byte.invariant)
