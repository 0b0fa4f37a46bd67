-- A GET that asks for all of a file, of a site that negotiates nothing.
use Rattle.std.specs.Prelude.{◌≡◌, ℕ, true, false, List, [], ◌∷◌, None, codes, decimal, is_some}
use Rattle.{headers.specs.{Date.fixdate, LineMap.Field}, http_header.specs.FieldValue.FieldValue}
use Rattle.gateway_messages.specs.{Expectations.has_known_expectation, Requests.has_host}
use Rattle.decide_preconditions.specs.Fields.{lines_sent, not_after}
use Rattle.decide_resource.specs.{Applies.rule_for, Fields.lines_of_value, Requests.Request as Asked}
use Rattle.decide_resource.specs.declared.resource.{Resource.Resource, State.TheVariants.Current}
use Rattle.server_service.specs.{Answer.AsksForAll, File.{coding_value, len_of, tag_of}, declared.file.File.File}
use Rattle.server_service.specs.declared.found.Found.{Found}

-- the site has GET, and serves each host; it shares nothing with other origins, negotiates nothing, and doesn't reject
-- what a client doesn't accept
pub record IsPlainSite (resource : Resource) : Type 0 where
  pub has_rule : is_some (rule_for resource.rules.items (codes "GET")) ≡ true
  pub hosts : resource.hosts ≡ None
  pub cors : resource.cors ≡ None
  pub media_type : resource.negotiation.media_type ≡ false
  pub language : resource.negotiation.language ≡ false
  pub coding : resource.negotiation.coding ≡ false
  pub lenient : resource.negotiation.is_strict ≡ false

-- the request is a valid GET without condition and range
pub record IsPlainGet (request : Asked) : Type 0 where
  pub method : request.method ≡ codes "GET"
  pub host : has_host request.protocol (request.fields (codes "host")) ≡ true
  pub expects : has_known_expectation (request.fields (codes "expect")) ≡ true
  pub all : AsksForAll false request.fields

-- what was found is this file alone, and the request gets all of it
pub record GetsWhole (resource : Resource) (request : Asked) (found : Found) (file : File) : Type 0 where
  pub site : IsPlainSite resource
  pub asks : IsPlainGet request
  pub state : found.state ≡ Current
  pub files : found.files.items ≡ file ∷ []

-- the fields of the answer that sends all of a file; one without values isn't sent
abbrev pub whole_fields : ℕ → File → List Field
whole_fields present file =
    (codes "content-encoding", lines_of_value (coding_value file.coding)) ∷ (codes "content-language", [])
    ∷ (codes "etag", lines_sent (λ (tag : FieldValue). tag.bytes) (tag_of file.source))
    ∷ (codes "last-modified", lines_sent fixdate (not_after present file.modified))
    ∷ (codes "accept-ranges", codes "bytes" ∷ []) ∷ (codes "content-range", [])
    ∷ (codes "content-length", decimal (len_of file.source) ∷ [])
    ∷ (codes "content-type", file.media_type.bytes ∷ []) ∷ []
