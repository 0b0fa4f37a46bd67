use Rattle.headers_syntax.proofs.DigitsLemmas.{IsRead}
use Rattle.headers_syntax.proofs.number.digits_value.Given as goal

abbrev pub invariant-loop-at : goal.invariant-loop-at
invariant-loop-at l = IsRead l.digits l.at l.number
