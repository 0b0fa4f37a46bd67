use Rattle.{std.proofs.Common.{None, sym}, rfc_fields.proofs.ValueLemmas.{quoted-next, quoted-end}}
use Rattle.rfc_fields.proofs.values.is_quoted_text.Goals as goal

pub returns-in-None : goal.returns-in-None
returns-in-None c = sym (quoted-next _ _ _ _ None c.loop-byte-test.true c.in-None.ensures c.loop-byte.invariant)

pub loop-byte-preserved : goal.loop-byte-preserved
loop-byte-preserved c = quoted-next _ _ _ _ _ c.loop-byte-test.true c.in-Some.ensures c.loop-byte.invariant

pub returns : goal.returns
returns c = sym (quoted-end _ _ _ _ c.loop-byte-test.false c.loop-byte.invariant)
