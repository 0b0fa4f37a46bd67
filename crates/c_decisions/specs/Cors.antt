-- What a server answers a request from another origin, by what a caller hands in.
use Rattle.std.specs.Prelude.{◌≡◌, ◌⊎◌, ℕ, List, Result, Ok, Err}
use Rattle.http_header.specs.{FieldValue.FieldValue, HeaderMap.Entries, Token.IsToken}
use Rattle.{headers.specs.LineMap.{fields_of, lines_at}, headers_section.specs.Section.Holds}
use Rattle.decide_cors.specs.{Answer.IsAnswer, Policy.Policy, declared.kind.CorsKind.{CorsKind, TheVariants.Preflight}}
use Rattle.decide_cors.specs.declared.{kind.CorsKind.TheVariants.{Plain, NoOrigin}, policy.CorsAnswer.CorsAnswer}
use Rattle.c_decisions.specs.{Flags.flag_of, FieldLines.fields_text, Methods.IsMethodOf, Rules.IsPolicyAnswer}
use Rattle.c_decisions.specs.{Rules.IsPolicyFor, declared.cors.{CorsFacts.CorsFacts, PolicyAnswer.PolicyAnswer}}
use Rattle.c_decisions.specs.declared.{request.RequestTexts.RequestTexts, rules.Rules.Rules}
use Rattle.c_parts.specs.{Endings.TellsAndWrites, SectionMap.IsMapOf, declared.status.Failure.Failure}
use Rattle.c_parts.specs.declared.status.Failure.TheVariants.{Memory}

abbrev pub kind_number : CorsKind → ℕ
kind_number NoOrigin = 0
kind_number Plain = 1
kind_number Preflight = 2

-- what an answer says of its request, and the field lines of its fields
pub record IsShownAnswer (answer : CorsAnswer) (shared : PolicyAnswer) : Type 0 where
  pub kind : shared.facts.kind ≡ kind_number answer.kind
  pub allowed : shared.facts.is_allowed ≡ flag_of answer.is_allowed
  pub text : shared.text.items ≡ fields_text (fields_of answer.fields.items)

-- the method and the fields of both sections are those that were handed in, and this is the policy's answer
pub record IsSharedBy (policy : Policy) (method request response : List ℕ) (shared : PolicyAnswer) : Type 0 where
  pub is_method : IsToken method
  pub asked : Entries FieldValue
  pub is_asked : Holds request asked
  pub told : Entries FieldValue
  pub is_told : Holds response told
  pub answer : CorsAnswer
  pub is_answer : IsAnswer policy method (lines_at asked) (lines_at told) answer
  pub is_shown : IsShownAnswer answer shared

-- the failure is that of reading the method or a section
abbrev pub FailsAtMessage : RequestTexts → (response : List ℕ) → Failure → Type 0
FailsAtMessage request response failure =
    IsMethodOf request.method.now (Err failure)
    ⊎ (IsMapOf request.section.now (Err failure) ⊎ IsMapOf response (Err failure))

-- the method and both sections can be read: a policy's answer to them has fields, which take memory
pub record IsMessage (request : RequestTexts) (response : List ℕ) : Type 0 where
  pub is_method : IsToken request.method.now
  pub asked : Entries FieldValue
  pub is_asked : Holds request.section.now asked
  pub told : Entries FieldValue
  pub is_told : Holds response told

-- the failure is that of reading the method or a section, or of allocating the answer
abbrev pub FailsToShare : RequestTexts → (response : List ℕ) → Failure → Type 0
FailsToShare request response failure =
    FailsAtMessage request response failure ⊎ ((failure ≡ Memory) × IsMessage request response)

-- the answer is that of the policy, or a failure
abbrev pub SharesBy : Policy → RequestTexts → (response : List ℕ) → Result PolicyAnswer Failure → Type 0
SharesBy policy request response (Ok shared) =
    IsSharedBy policy request.method.now request.section.now response shared
SharesBy policy request response (Err failure) = FailsToShare request response failure

-- the same of the policy of the rules that were handed in
abbrev pub Shares : Rules → RequestTexts → (response : List ℕ) → Result PolicyAnswer Failure → Type 0
Shares given request response (Ok shared) =
    (policy : Policy) × IsPolicyFor given policy
    × IsSharedBy policy request.method.now request.section.now response shared
Shares given request response (Err failure) =
    IsPolicyAnswer given (Err failure) ⊎ FailsToShare request response failure

abbrev pub WritesShared : (Result PolicyAnswer Failure → Type 0) → (facts new_facts : CorsFacts) → (old new : List ℕ)
    → (before written status : ℕ) → Type 0
WritesShared = TellsAndWrites (λ (shared : PolicyAnswer). shared.facts) (λ (shared : PolicyAnswer). shared.text.items)
