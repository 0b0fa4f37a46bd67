use Rattle.std.proofs.{Common.{rules, tests, List, ℕ}, lemmas.Iterator.Search.any_from_yields_List}
use Rattle.{headers.proofs.WalkRuns.YieldsList-from_walk, headers_syntax.specs.AsciiCase.same_name}
use Rattle.c_parts.proofs.flags.is_set_in.Goals as goal

pub returns : goal.returns
returns c = any_from_yields_List (λ (entry : List ℕ). same_name entry c.args.flag.now) c.any.new.self _ c.any.result
    c.any.ensures.ran (YieldsList-from_walk c.new.ensures.entries) (λ x b q k. search (rules, tests))
