-- What is at the caller's places after a response.
use Rattle.std.specs.Prelude.{◌≡◌, ℕ, ◌==◌, List, Result, Ok, Err, if◌then◌else◌}
use Rattle.c_parts.specs.{Endings.{IsWritten, done, status_of}, declared.status.Failure.Failure}
use Rattle.c_decisions.specs.declared.response.{Responded.Responded, ResponseFacts.ResponseFacts}
use Rattle.c_decisions.specs.declared.selection.BytesRange.{BytesRange}
use Rattle.c_resource.specs.declared.{answer.Answered.Answered, shown.AnswerFacts.AnswerFacts}

-- the status of two rooms: that of one in which something doesn't fit, if there is one
abbrev pub worse : ℕ → ℕ → ℕ
worse one other = if one == done then other else one

-- a response, of which facts are told, and parts and a text are written
module _ {V F : Type 0} (facts_of : V → F) (parts_of : V → List BytesRange) (text_of : V → List ℕ) where
  module _ (facts new_facts : F) (parts new_parts : List BytesRange) (parts_before parts_written : ℕ)
      (old new : List ℕ) (before written status : ℕ) where
    -- the response is told, and both its parts and its text are written
    pub record IsHandedOver (shown : V) : Type 0 where
      pub is_told : new_facts ≡ facts_of shown
      pub one : ℕ
      pub are_parts : IsWritten (parts_of shown) done parts new_parts parts_written one
      pub other : ℕ
      pub is_text : IsWritten (text_of shown) done old new written other
      pub is_status : status ≡ worse one other

    -- all places are as they were
    pub record IsUntouched (failure : Failure) : Type 0 where
      pub is_status : status ≡ status_of failure
      pub same_facts : new_facts ≡ facts
      pub same_parts : new_parts ≡ parts
      pub same_count : parts_written ≡ parts_before
      pub same_room : new ≡ old
      pub same_written : written ≡ before

    abbrev pub IsHandedOut : Result V Failure → Type 0
    IsHandedOut (Ok shown) = IsHandedOver shown
    IsHandedOut (Err failure) = IsUntouched failure

  -- a call that gives a response has an answer of which P holds
  abbrev pub HandsOut : (Result V Failure → Type 0) → (facts new_facts : F) → (parts new_parts : List BytesRange)
      → (parts_before parts_written : ℕ) → (old new : List ℕ) → (before written status : ℕ) → Type 0
  HandsOut P facts new_facts parts new_parts parts_before parts_written old new before written status =
      (answer : Result V Failure) × P answer
      × IsHandedOut facts new_facts parts new_parts parts_before parts_written old new before written status answer

abbrev pub WritesResponse : (Result Responded Failure → Type 0) → (facts new_facts : ResponseFacts)
    → (parts new_parts : List BytesRange) → (parts_before parts_written : ℕ) → (old new : List ℕ)
    → (before written status : ℕ) → Type 0
WritesResponse =
    HandsOut (λ (shown : Responded). shown.facts) (λ (shown : Responded). shown.parts.items)
    (λ (shown : Responded). shown.text.items)

abbrev pub WritesAnswer : (Result Answered Failure → Type 0) → (facts new_facts : AnswerFacts)
    → (parts new_parts : List BytesRange) → (parts_before parts_written : ℕ) → (old new : List ℕ)
    → (before written status : ℕ) → Type 0
WritesAnswer =
    HandsOut (λ (shown : Answered). shown.facts) (λ (shown : Answered). shown.parts.items)
    (λ (shown : Answered). shown.text.items)
