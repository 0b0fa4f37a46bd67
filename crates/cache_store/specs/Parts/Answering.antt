-- What a store of parts answers to a request (RFC 9111, section 3.3).
use Rattle.std.specs.Prelude.{[], ◌++◌, ◌∷◌, ◌≡◌, ◌⊎◌, codes, IsSomeAnd, List, None, Some, ℕ}
use Rattle.{headers.specs.{LineMap.{Field, fields_of}, Typed.HasLine}, cache_store.specs.Lookups.{IsAnswer, IsFound}}
use Rattle.cache_store.specs.{Lookups.age_of_stored, Numbers.numbered, Parts.Completing.{completing_fields, lacking}}
use Rattle.cache_store.specs.Parts.{Extents.{extent_in, strong_tag}, Answers.{HasBytes, IsPartAnswer, part_fields}}
use Rattle.cache_store.specs.declared.parts.{extent.Extent.Extent, store_answering.PartAnswer.PartAnswer}
use Rattle.cache_store.specs.declared.parts.store_answering.PartLookup.{PartLookup, TheVariants.{Complete, Serve}}
use Rattle.cache_store.specs.declared.parts.store_answering.PartLookup.TheVariants.{Forward, Unavailable}
use Rattle.cache_policy.specs.{Decisions.AnswersUnstored, Policies.Policy, Requests.Request}
use Rattle.{cache_policy.specs.declared.decision.Decision.Decision, cache_rules.specs.Stored.fields_of_stored}
use Rattle.cache_rules.specs.declared.stored.StoredResponse.{StoredResponse}
use Rattle.cache_store.specs.declared.lookup.Lookup.TheVariants as lookups
use Rattle.cache_policy.specs.declared.decision.Decision.TheVariants as decisions

-- ---- what the origin is asked for

-- the request asks for the whole representation
pub record IsForWhole (request : Request) : Type 0 where
  pub get : request.method ≡ codes "GET"
  pub unranged : ¬ (HasLine (request.fields (codes "range")))

-- a part that the stored one lacks for the request, which asks for the whole
pub record Lacks (request : Request) (stored : StoredResponse) (part : Extent) : Type 0 where
  pub whole : IsForWhole request
  pub own : Extent
  pub extent : extent_in (fields_of_stored stored) ≡ Some own
  pub lacks : lacking own ≡ Some part

module _ (request : Request) (stored : StoredResponse) where
  -- What is done with a request that the stored part doesn't answer: `only-if-cached` forbids to ask the origin (RFC
  -- 9111, section 5.2.1.7); a request for the whole asks for what the part lacks; and any other goes on as it is.
  abbrev pub IsAsked : PartLookup → Type 0
  IsAsked (Serve answer) = ⊥
  IsAsked (Complete fields) = AnswersUnstored request decisions.Fetch × ((part : Extent) × Lacks request stored part
      × IsSomeAnd (strong_tag (fields_of_stored stored)) (λ tag. fields_of fields.items ≡ completing_fields part tag))
  IsAsked Unavailable = AnswersUnstored request decisions.Unavailable
  IsAsked Forward =
      AnswersUnstored request decisions.Fetch
      × (((part : Extent) → ¬ (Lacks request stored part)) ⊎ (strong_tag (fields_of_stored stored) ≡ None))

  -- ---- what is answered

  module _ (now number : ℕ) (age : Field) where
    -- the stored part with the number, which may be reused, answers the request so, with this field Age
    pub record IsServed (answer : PartAnswer) : Type 0 where
      pub number_is : answer.number ≡ number
      pub part : IsPartAnswer request stored now (Some answer.part)
      pub fields : fields_of answer.fields.items ≡ part_fields answer.part ++ age ∷ []

    -- it answers the request, or doesn't
    abbrev pub IsReused : PartLookup → Type 0
    IsReused (Serve answer) = IsServed answer
    IsReused (Complete fields) = IsPartAnswer request stored now None × IsAsked (Complete fields)
    IsReused Unavailable = IsPartAnswer request stored now None × IsAsked Unavailable
    IsReused Forward = IsPartAnswer request stored now None × IsAsked Forward

-- the decision lets a stored response be reused without asking the origin
abbrev pub IsReuse : Decision → Type 0
IsReuse decision = (decision ≡ decisions.Serve) ⊎ (decision ≡ decisions.ServeStale)

-- the decision is to ask the origin
abbrev pub IsValidation : Decision → Type 0
IsValidation decision =
    (decision ≡ decisions.ServeAndRevalidate) ⊎ (decision ≡ decisions.Revalidate)
    ⊎ (decision ≡ decisions.RevalidateOrServe)

module _ (policy : Policy) (most : ℕ) (request : Request) (now : ℕ) (parts : List StoredResponse) where
  -- The stored part with the number is selected for the request (section 4.1), and this is done with it: it may be
  -- reused (section 4.2), or the origin is to be asked.
  pub record IsDecided (lookup : PartLookup) : Type 0 where
    pub place : ℕ
    pub decision : Decision
    pub found : IsFound policy most request now parts decision place
    pub number : ℕ
    pub shown : numbered number parts ≡ Some found.selected.response
    pub does : (IsReuse decision
        × IsReused request found.selected.response now number (age_of_stored found.selected.response now) lookup)
        ⊎ (IsValidation decision × IsAsked request found.selected.response lookup)

  -- which facts give each answer: those of the selected part, or those of a store in which none is good enough
  abbrev pub IsLookedUp : PartLookup → Type 0
  IsLookedUp (Serve answer) = IsDecided (Serve answer)
  IsLookedUp (Complete fields) = IsDecided (Complete fields)
  IsLookedUp Unavailable = IsDecided Unavailable ⊎ IsAnswer policy most request now parts lookups.Unavailable
  IsLookedUp Forward = IsDecided Forward ⊎ IsAnswer policy most request now parts lookups.Forward

-- the bytes are those of this part, which lies within the stored one with the number
abbrev pub HasBytesAt : List StoredResponse → ℕ → Extent → List ℕ → Type 0
HasBytesAt parts number part bytes = IsSomeAnd (numbered number parts) (λ stored. HasBytes stored part bytes)
