-- A policy for requests from other origins that was made, and what it answers.
use Rattle.std.specs.Prelude.{◌≡◌, ◌⊎◌, Option, Some, None, Result, Ok, Err}
use Rattle.http_header.specs.{FieldValue.FieldValue, HeaderMap.Entries, Token.IsToken}
use Rattle.{headers_section.specs.Section.Holds, decide_cors.specs.Policy.Policy, c_parts.specs.SectionMap.IsMapOf}
use Rattle.c_parts.specs.declared.status.Failure.{Failure, TheVariants.{Memory, Absent}}
use Rattle.c_decisions.specs.{Cors.IsSharedBy, Methods.IsMethodOf, Rules.IsPolicyAnswer}
use Rattle.c_decisions.specs.declared.{cors.PolicyAnswer.PolicyAnswer, rules.Rules.Rules}
use Rattle.c_handles.specs.{Sections.OfEach, declared.{held.Held.Held, policy.CorsExchange.CorsExchange}}
use Rattle.c_handles.specs.declared.held.Held.TheVariants as held

-- the policy of the rules, or why there is none; `Memory` also for the handle
abbrev pub IsPolicyHeld : Rules → Result Held Failure → Type 0
IsPolicyHeld given (Ok (held.Policy policy)) = IsPolicyAnswer given (Ok policy)
IsPolicyHeld given (Ok other) = ⊥
IsPolicyHeld given (Err failure) = IsPolicyAnswer given (Err failure) ⊎ (failure ≡ Memory)

-- the method and the section of the response can be read: a policy's answer to them has fields, which take memory
pub record AreRead (exchange : CorsExchange) : Type 0 where
  pub is_method : IsToken exchange.method.now
  pub told : Entries FieldValue
  pub is_told : Holds exchange.response.now told

module _ (exchange : CorsExchange) where
  -- the policy's answer to a request with these fields
  abbrev pub SharesOf : Policy → Entries FieldValue → Result PolicyAnswer Failure → Type 0
  SharesOf policy fields (Ok shared) =
      OfEach fields (λ request. IsSharedBy policy exchange.method.now request exchange.response.now shared)
  SharesOf policy fields (Err failure) =
      IsMethodOf exchange.method.now (Err failure)
      ⊎ (IsMapOf exchange.response.now (Err failure) ⊎ ((failure ≡ Memory) × AreRead exchange))

  -- the same of two handles: `Absent` if one has none
  abbrev pub SharesBetween : Option Policy → Option (Entries FieldValue) → Result PolicyAnswer Failure → Type 0
  SharesBetween None fields answer = answer ≡ Err Absent
  SharesBetween (Some policy) None answer = answer ≡ Err Absent
  SharesBetween (Some policy) (Some fields) answer = SharesOf policy fields answer
