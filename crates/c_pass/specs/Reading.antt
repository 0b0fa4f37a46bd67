-- Requests and responses, as a caller hands them in.
use Rattle.std.specs.{Prelude.{◌≡◌, ◌⊎◌, ℕ, List, Err}, Str.IsUtf8}
use Rattle.{http_header.specs.{FieldValue.FieldValue, HeaderMap.Entries, Token.IsToken}, headers.specs.LineMap.lines_at}
use Rattle.{headers_section.specs.Section.Holds, cache_policy.specs.Requests.Request}
use Rattle.{c_decisions.specs.Methods.IsMethodOf, c_parts.specs.{SectionMap.IsMapOf, declared.status.Failure.Failure}}
use Rattle.c_parts.specs.declared.status.Failure.TheVariants.{Refused}
use Rattle.c_pass.specs.declared.reading.CacheRequest.{CacheRequest}

-- the bytes are no text
abbrev pub FailsText : List ℕ → Failure → Type 0
FailsText bytes failure = (failure ≡ Refused) × ¬ (IsUtf8 bytes)

-- the request has this target, this method and these fields
pub record IsRequest (request : CacheRequest) (fields : Entries FieldValue) : Type 0 where
  pub text : IsUtf8 request.target.now
  pub token : IsToken request.method.now
  pub holds : Holds request.section.now fields

-- the request, for a cache
abbrev pub asked_by : CacheRequest → Entries FieldValue → Request
asked_by request fields = record { method = request.method.now; fields = lines_at fields }

-- the failure of parsing a request
abbrev pub FailsRequest : CacheRequest → Failure → Type 0
FailsRequest request failure =
    FailsText request.target.now failure
    ⊎ (IsMethodOf request.method.now (Err failure) ⊎ IsMapOf request.section.now (Err failure))
