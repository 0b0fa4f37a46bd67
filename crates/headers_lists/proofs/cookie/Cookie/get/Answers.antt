use Rattle.std.proofs.Common.{◌≡◌, ℕ, List, Option}
use Rattle.headers_items.{proofs.AnswerLemmas.survives_semicolons, specs.Answers.SurvivesCuts, specs.Merge.merge}
use Rattle.headers_items.{specs.Pairs.{pairs, first_value}, specs.Places.{semicolon, items}}
use Rattle.headers_lists.proofs.cookie.Cookie.get.Goals as goal

value_survives : (name : List ℕ) → SurvivesCuts semicolon
    (λ lines (got : Option (List ℕ)). got ≡ first_value name (pairs (items semicolon (merge semicolon lines))))
value_survives name = survives_semicolons (λ items (got : Option (List ℕ)). got ≡ first_value name (pairs items))

pub returns-then-eq-clause-cuts : goal.returns-then-eq-clause-cuts
returns-then-eq-clause-cuts c = value_survives c.args.name.now

pub returns-clause-cuts : goal.returns-clause-cuts
returns-clause-cuts c = value_survives c.args.name.now
