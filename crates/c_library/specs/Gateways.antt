-- What is at the caller's places after a gateway's step.
use Rattle.{std.specs.Prelude.{ℕ, List, Result}, c_parts.specs.Endings.TellsAndWrites}
use Rattle.{c_parts.specs.declared.status.Failure.Failure, c_gateway.specs.declared.request.RequestFacts.RequestFacts}
use Rattle.c_gateway.specs.declared.{request.RequestStep.RequestStep, response.ForwardedFacts.ForwardedFacts}
use Rattle.c_gateway.specs.declared.response.ResponseStep.{ResponseStep}

-- a call that tells what a gateway does with a request has an answer of which P holds
abbrev pub WritesRequest : (Result RequestStep Failure → Type 0) → (facts new_facts : RequestFacts)
    → (old new : List ℕ) → (before written status : ℕ) → Type 0
WritesRequest = TellsAndWrites (λ (step : RequestStep). step.facts) (λ (step : RequestStep). step.text.items)

-- the same for a response
abbrev pub WritesResponse : (Result ResponseStep Failure → Type 0) → (facts new_facts : ForwardedFacts)
    → (old new : List ℕ) → (before written status : ℕ) → Type 0
WritesResponse = TellsAndWrites (λ (step : ResponseStep). step.facts) (λ (step : ResponseStep). step.text.items)
