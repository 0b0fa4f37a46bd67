-- The head and the fields of a response, as a caller gets them.
use Rattle.std.specs.Prelude.{◌≡◌, ⊤, ℕ, List, map}
use Rattle.httparse.specs.{Grammar.{ResponseHead, reason_phrase, status_code}, Spans.{name_and_value, span_bytes}}
use Rattle.httparse.specs.declared.spans.{HeaderSpan.HeaderSpan, ResponseSpans.ResponseSpans}
use Rattle.{http.specs.declared.error.Error.Error, http1.specs.{Fields.Header, ServerTrace.headers_at}}
use Rattle.gateway_connection.specs.{Content.{HasNoMap, map_of}, declared.event.OriginFault.OriginFault}
use Rattle.gateway_connection.specs.declared.event.OriginResponse.{OriginResponse}
use Rattle.http.specs.declared.error.Error.TheVariants as Mapped
use Rattle.gateway_connection.specs.declared.event.OriginFault.TheVariants as Faults

-- the parts of a head of the grammar
abbrev pub response_of : ResponseHead → OriginResponse
response_of h = record {
  minor = h.minor;
  status = status_code h;
  reason = reason_phrase h.reason;
  fields = map_of (map name_and_value h.fields);
}

-- the parts under the spans
pub record IsUnder (input : List ℕ) (spans : List HeaderSpan) (r : ResponseSpans) (response : OriginResponse)
    : Type 0 where
  pub minor : response.minor ≡ r.version
  pub status : response.status ≡ r.code
  pub reason : response.reason ≡ span_bytes input r.reason
  pub fields : response.fields ≡ map_of (headers_at input spans r.headers)

-- the reason that `http1_typed` tells
abbrev pub map_fault : Error → OriginFault
map_fault Mapped.OutOfMemory = Faults.OutOfMemory
map_fault error = Faults.InvalidFields

-- the fields have no map, or memory ran out
abbrev pub IsFieldsFault : List Header → OriginFault → Type 0
IsFieldsFault fields Faults.InvalidFields = HasNoMap fields
IsFieldsFault fields Faults.OutOfMemory = ⊤
IsFieldsFault fields fault = ⊥
