-- What a cache may do with a response, by what a caller hands in.
use Rattle.std.specs.{Prelude.{◌≡◌, ◌⊎◌, ℕ, Bool, true, false, List, Option, Some, None, Result, Ok, Err}, Global.Vec}
use Rattle.{http.specs.StatusCode.IsStatusCode, http_header.specs.{FieldValue.FieldValue, HeaderMap.Entries}}
use Rattle.{http_header.specs.Token.IsToken, headers.specs.LineMap.lines_at, headers_section.specs.Section.Holds}
use Rattle.cache_policy.specs.Age.{age_at}
use Rattle.cache_policy.specs.Decisions as Decided_by
use Rattle.cache_policy.specs.{Fields.capped, Freshness.{HasHeuristic, HasLifetime}, Requests.Request, Storing.MayStore}
use Rattle.cache_policy.specs.{Validating.validation_fields, declared.{Times.Times, decision.Decision.Decision}}
use Rattle.cache_policy.specs.declared.decision.Decision.TheVariants as Decided
use Rattle.cache_policy.specs.declared.Kind.{Kind, TheVariants.{Shared, Private}}
use Rattle.c_decisions.specs.{FieldLines.fields_text, Methods.IsMethodOf, StatusCodes.IsStatusOf}
use Rattle.{c_decisions.specs.declared.request.RequestTexts.RequestTexts, c_parts.specs.SectionMap.IsMapOf}
use Rattle.{c_parts.specs.declared.status.Failure.{Failure, TheVariants.Absent}, c_library.specs.Tags.Tells}
use Rattle.c_library.specs.declared.cache.{Moments.Moments, StoredTexts.StoredTexts}

abbrev pub times_of : Moments → Times
times_of moments = record { request = moments.request; response = moments.response; now = moments.now }

abbrev pub kind_of : Bool → Kind
kind_of true = Shared
kind_of false = Private

-- the request with the method and the fields
abbrev pub request_with : List ℕ → Entries FieldValue → Request
request_with method fields = record { method = method; fields = lines_at fields }

-- the method, the status and the fields of both sections are those that were handed in, and the number tells whether
-- the response may be stored
pub record IsStored (request : RequestTexts) (status : ℕ) (response : List ℕ) (is_shared : Bool) (number : ℕ)
    : Type 0 where
  pub is_method : IsToken request.method.now
  pub is_status : IsStatusCode status
  pub asked : Entries FieldValue
  pub is_asked : Holds request.section.now asked
  pub told : Entries FieldValue
  pub is_told : Holds response told
  pub tells : Tells (MayStore (kind_of is_shared) (request_with request.method.now asked) status (lines_at told)) number

-- the answer is the number, or the failure of reading what was handed in
abbrev pub Stores : RequestTexts → ℕ → List ℕ → Bool → Result ℕ Failure → Type 0
Stores request status response is_shared (Ok number) = IsStored request status response is_shared number
Stores request status response is_shared (Err failure) =
    IsMethodOf request.method.now (Err failure)
    ⊎ (IsStatusOf status (Err failure)
    ⊎ (IsMapOf request.section.now (Err failure) ⊎ IsMapOf response (Err failure)))

-- the fields of the section have this lifetime
pub record HasLife (response : List ℕ) (received : ℕ) (is_shared : Bool) (seconds : Option ℕ) : Type 0 where
  pub told : Entries FieldValue
  pub is_told : Holds response told
  pub lives : HasLifetime (kind_of is_shared) received (lines_at told) seconds

-- the answer is the lifetime, or the failure of reading the section; `Absent` only if none is stated
abbrev pub Lives : List ℕ → ℕ → Bool → Result ℕ Failure → Type 0
Lives response received is_shared (Ok seconds) = HasLife response received is_shared (Some seconds)
Lives response received is_shared (Err failure) =
    IsMapOf response (Err failure) ⊎ ((failure ≡ Absent) × HasLife response received is_shared None)

-- the fields of the section and the status let a cache guess this lifetime
pub record HasGuess (status : ℕ) (response : List ℕ) (received : ℕ) (is_shared : Bool) (seconds : Option ℕ)
    : Type 0 where
  pub is_status : IsStatusCode status
  pub told : Entries FieldValue
  pub is_told : Holds response told
  pub guessed : HasHeuristic (kind_of is_shared) status received (lines_at told) seconds

-- the answer is the guess, or the failure of reading what was handed in; `Absent` only if a cache may guess none
abbrev pub Guesses : ℕ → List ℕ → ℕ → Bool → Result ℕ Failure → Type 0
Guesses status response received is_shared (Ok seconds) = HasGuess status response received is_shared (Some seconds)
Guesses status response received is_shared (Err failure) =
    IsStatusOf status (Err failure)
    ⊎ (IsMapOf response (Err failure)
    ⊎ ((failure ≡ Absent) × HasGuess status response received is_shared None))

-- the answer is the current age, or the failure of reading the section
abbrev pub Ages : List ℕ → Moments → Result ℕ Failure → Type 0
Ages response moments (Ok seconds) =
    (told : Entries FieldValue)
    × Holds response told
    × (seconds ≡ capped (age_at (times_of moments) (lines_at told)))
Ages response moments (Err failure) = IsMapOf response (Err failure)

abbrev pub decision_number : Decision → ℕ
decision_number Decided.Serve = 0
decision_number Decided.ServeAndRevalidate = 1
decision_number Decided.ServeStale = 2
decision_number Decided.Revalidate = 3
decision_number Decided.RevalidateOrServe = 4
decision_number Decided.Unavailable = 5
decision_number Decided.Fetch = 6

-- the methods and the fields of the three sections are those that were handed in, and this is the number of their
-- decision
pub record IsDecided (stored : StoredTexts) (request : RequestTexts) (moments : Moments) (is_shared : Bool)
    (number : ℕ) : Type 0 where
  pub is_stored_method : IsToken stored.method.now
  pub is_method : IsToken request.method.now
  pub first : Entries FieldValue
  pub is_first : Holds stored.request.now first
  pub asked : Entries FieldValue
  pub is_asked : Holds request.section.now asked
  pub told : Entries FieldValue
  pub is_told : Holds stored.response.now told
  pub decision : Decision
  pub decides : Decided_by.Decides (kind_of is_shared) (request_with stored.method.now first)
      (request_with request.method.now asked) (lines_at told) (times_of moments) decision
  pub number_is : number ≡ decision_number decision

-- the answer is the number, or the failure of reading a method or a section
abbrev pub Decides : StoredTexts → RequestTexts → Moments → Bool → Result ℕ Failure → Type 0
Decides stored request moments is_shared (Ok number) = IsDecided stored request moments is_shared number
Decides stored request moments is_shared (Err failure) =
    IsMethodOf stored.method.now (Err failure)
    ⊎ (IsMethodOf request.method.now (Err failure)
    ⊎ (IsMapOf stored.request.now (Err failure)
    ⊎ (IsMapOf request.section.now (Err failure) ⊎ IsMapOf stored.response.now (Err failure))))

-- the text is that of the fields that validate the response, which came at a time, or the section could not be parsed
abbrev pub Validates : List ℕ → ℕ → Result (Vec ℕ) Failure → Type 0
Validates response received (Ok text) =
    (told : Entries FieldValue)
    × Holds response told
    × (text.items ≡ fields_text (validation_fields received (lines_at told)))
Validates response received (Err failure) = IsMapOf response (Err failure)
