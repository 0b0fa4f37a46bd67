use Rattle.std.proofs.Common.{arith, rules}
use Rattle.c_library.proofs.CanonicalLemmas.{HasTooManyFields-none, IsCanonicalText-none}
use Rattle.c_library.proofs.canonical.read_canonical.Goals as goal

pub returns-then-not-has_line : goal.returns-then-not-has_line
returns-then-not-has_line c = (
  search (rules, arith),
  HasTooManyFields-none c.args.section.now (search rules),
  IsCanonicalText-none c.args.section.now _ (search rules) (search rules),
)
