-- Which requests a cache may take for one by Vary (RFC 9110, section 12.5.5; RFC 9111, section 4.1).
use Rattle.std.specs.Prelude.{◌≡◌, ◌⊎◌, List, true, codes}
use Rattle.headers.specs.{LineMap.LineMap, Lines.Line, Typed.HasLine}
use Rattle.{rfc_fields.specs.Members.field_members, decide_resource.specs.Requests.Request}

-- the conditions and the range of both are the same; a cache answers requests that have some by rules of its own
pub record AskAlike (r s : LineMap) : Type 0 where
  pub if_match : r (codes "if-match") ≡ s (codes "if-match")
  pub if_none_match : r (codes "if-none-match") ≡ s (codes "if-none-match")
  pub if_modified_since : r (codes "if-modified-since") ≡ s (codes "if-modified-since")
  pub if_unmodified_since : r (codes "if-unmodified-since") ≡ s (codes "if-unmodified-since")
  pub range : r (codes "range") ≡ s (codes "range")
  pub if_range : r (codes "if-range") ≡ s (codes "if-range")

-- Both have the same method, target and content, and the same conditions, and the server denies both alike. The fields
-- that select a representation, and Origin, may differ, and so may all fields that no decision reads.
pub record AreAlike (r s : Request) : Type 0 where
  pub protocol : r.protocol ≡ s.protocol
  pub method : r.method ≡ s.method
  pub authority : r.authority ≡ s.authority
  pub host : r.fields (codes "host") ≡ s.fields (codes "host")
  pub expect : r.fields (codes "expect") ≡ s.fields (codes "expect")
  pub content : r.content ≡ s.content
  pub denied : r.denied ≡ s.denied
  pub content_type : r.fields (codes "content-type") ≡ s.fields (codes "content-type")
  pub content_encoding : r.fields (codes "content-encoding") ≡ s.fields (codes "content-encoding")
  pub content_range : r.method ≡ codes "PUT" → r.fields (codes "content-range") ≡ s.fields (codes "content-range")
  pub asks : AskAlike r.fields s.fields

-- the fields that select a representation, and those by which a policy for requests from other origins decides, are
-- the same
pub record ChooseAlike (r s : LineMap) : Type 0 where
  pub accept : r (codes "accept") ≡ s (codes "accept")
  pub accept_language : r (codes "accept-language") ≡ s (codes "accept-language")
  pub accept_encoding : r (codes "accept-encoding") ≡ s (codes "accept-encoding")
  pub origin : r (codes "origin") ≡ s (codes "origin")
  pub requested_method : r (codes "access-control-request-method") ≡ s (codes "access-control-request-method")

-- A list is the same in both requests, in the same field lines or in others: the lines are the same, or both requests
-- have some, with the same members.
abbrev pub ListAlike : List Line → List Line → Type 0
ListAlike lines others =
    (lines ≡ others) ⊎ (HasLine lines × HasLine others × (field_members true lines ≡ field_members true others))

-- the lists by which a representation is selected are the same, and so are the fields by which a policy for requests
-- from other origins decides
pub record SelectTheSame (r s : LineMap) : Type 0 where
  pub accept : ListAlike (r (codes "accept")) (s (codes "accept"))
  pub accept_language : ListAlike (r (codes "accept-language")) (s (codes "accept-language"))
  pub accept_encoding : ListAlike (r (codes "accept-encoding")) (s (codes "accept-encoding"))
  pub origin : r (codes "origin") ≡ s (codes "origin")
  pub requested_method : r (codes "access-control-request-method") ≡ s (codes "access-control-request-method")
