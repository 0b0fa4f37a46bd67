use Rattle.headers_syntax.proofs.NumberLemmas.{number-decimal}
use Rattle.headers_syntax.proofs.number.numbers_read_back.Goals as goal

pub returns : goal.returns
returns c = number-decimal
