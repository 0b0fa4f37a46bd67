use Rattle.{std.proofs.Common.{sym, ◌∙◌}, gateway_messages.proofs.HostLemmas.{name_ends, name_goes_on, name_stops}}
use Rattle.gateway_messages.proofs.host.is_reg_name.Goals as goal

pub returns-then-not-begins_part : goal.returns-then-not-begins_part
returns-then-not-begins_part c = sym (c.loop-rest.invariant
    ∙ name_stops c.loop-rest.rest.now c.in-len1-up.len_at_least (sym c.begins_part.ensures ∙ c.if-not-begins_part.true))

pub loop-rest-preserved : goal.loop-rest-preserved
loop-rest-preserved c = c.loop-rest.invariant ∙ name_goes_on c.loop-rest.rest.now c.in-len1-up.len_at_least
    (sym c.begins_part.ensures ∙ c.if-not-begins_part.false)

pub returns : goal.returns
returns c = sym (c.loop-rest.invariant ∙ name_ends c.loop-rest.rest.now c.in_default.len_below)
