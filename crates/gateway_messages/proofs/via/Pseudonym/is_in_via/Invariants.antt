use Rattle.{std.proofs.Common.{◌≡◌, codes}, headers.specs.{LineMap.lines_at, Lines.lines_of}}
use Rattle.gateway_messages.specs.Via.{is_loop}
use Rattle.gateway_messages.proofs.via.Pseudonym.is_in_via.Given as goal

abbrev pub invariant-loop-line : goal.invariant-loop-line
invariant-loop-line l = is_loop l.self (lines_of l.line-iterator) ≡ is_loop l.self (lines_at l.message (codes "via"))
