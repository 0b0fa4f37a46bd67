-- What is told of a step.
use Rattle.std.specs.{Prelude.{◌≡◌, ⊤, ℕ, Bool, List, [], Option, Some, None, bytes_eq, codes}, Option.option_map_or}
use Rattle.{headers.specs.LineMap.fields_of, cache_rules.specs.declared.conditions.StoredAnswer.StoredAnswer}
use Rattle.{cache_rules.specs.declared.stored.StoredResponse.StoredResponse, cache_store.specs.Numbers.numbered}
use Rattle.{cache_pass.specs.declared.pass.Pass.Pass, c_decisions.specs.FieldLines.fields_text}
use Rattle.c_pass.specs.{Sending.{part_sent, status_sent, text_sent}, declared.outcome.By.{By, TheVariants.Nothing}}
use Rattle.c_pass.specs.declared.outcome.{By.TheVariants.{Fields, Stored, Once}, PassOutcome.PassOutcome}
use Rattle.c_pass.specs.declared.telling.{PassFacts.PassFacts, Told.Told}

-- the client asks by HEAD, so no content is sent
abbrev pub is_head : Pass → Bool
is_head pass = bytes_eq pass.method (codes "HEAD")

abbrev pub facts_of : (action status : ℕ) → ℕ × ℕ → PassFacts
facts_of action status part = record { first = part.0; count = part.1; status = status; action = action }

-- what is told of a pass that waits
abbrev pub waiting : PassFacts
waiting = facts_of 8 0 (0, 0)

-- what is told of a step: facts, field lines, and the content of the stored response that it names
abbrev pub Telling : Type 0
Telling = PassFacts × List ℕ × Option (List ℕ)

abbrev pub IsTold : Told → Telling → Type 0
IsTold told is = (told.facts ≡ is.0) × (told.text.items ≡ is.1) × (told.shown ≡ is.2)

-- what is told of a stored response that is sent
abbrev pub told_of : ℕ → StoredResponse → StoredAnswer → Bool → ℕ → Telling
told_of action stored answer head now = (
  facts_of action (status_sent stored answer) (part_sent stored answer head),
  text_sent stored answer now,
  Some stored.content,
)

-- what is told of an outcome if no stored response is sent
abbrev pub told_alone : ℕ → List ℕ → Telling
told_alone action text = (facts_of action 0 (0, 0), text, None)

module _ (responses : List StoredResponse) (head : Bool) (now action : ℕ) where
  -- by what something is done; a response that a step names is stored
  abbrev pub by_told : By → Telling
  by_told Nothing = told_alone action []
  by_told (Fields fields) = told_alone action (fields_text (fields_of fields.items))
  by_told (Stored number answer) =
      option_map_or (λ stored. told_of action stored answer head now) (numbered number responses) (told_alone action [])
  by_told (Once stored answer) = told_of action stored answer head now

-- what is told of an outcome, by what is stored under the target of the pass
abbrev pub outcome_told : List StoredResponse → Bool → ℕ → PassOutcome → Telling
outcome_told responses head now outcome = by_told responses head now outcome.action outcome.by

-- fields are told, or those of a stored response
abbrev pub TakesMemory : PassOutcome → Type 0
TakesMemory outcome = TakesMemoryBy outcome.by
  where
    TakesMemoryBy : By → Type 0
    TakesMemoryBy Nothing = ⊥
    TakesMemoryBy (Fields fields) = ⊤
    TakesMemoryBy (Stored number answer) = ⊤
    TakesMemoryBy (Once stored answer) = ⊤
