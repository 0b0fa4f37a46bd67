-- Which stored response a 304 updates (RFC 9111, section 4.3.4).
use Rattle.std.specs.Prelude.{◌≡◌, ◌⊎◌, Bool, true, take, drop, Option, IsTrue, IsSomeAnd, bytes_eq, codes}
use Rattle.std.specs.{Prelude.if◌then◌else◌, List.list_all}
use Rattle.{headers.specs.{LineMap.LineMap, Lines.{Line, only_line}}, rfc_fields.specs.Directives.is_token_member}
use Rattle.{rfc_fields.specs.Members.field_members, cache_fields.specs.Fields.IsPresent}

-- an entity tag is weak if it begins with `W/` (RFC 9110, section 8.8.3)
abbrev pub is_weak : Line → Bool
is_weak tag = bytes_eq (take 2 tag) (codes "W/")

-- the tag without `W/`
abbrev pub opaque_of : Line → Line
opaque_of tag = if is_weak tag then drop 2 tag else tag

-- the only line of ETag
abbrev pub tag_in : LineMap → Option Line
tag_in message = only_line (message (codes "etag"))

-- a strong tag is the stored one; a weak tag has its opaque part (RFC 9110, section 8.8.3.2)
abbrev pub IsTagOf : Line → Line → Type 0
IsTagOf stored tag = (opaque_of stored ≡ opaque_of tag) × (IsTrue (is_weak stored) → IsTrue (is_weak tag))

-- the 304 has one entity tag, which is strong
abbrev pub HasStrongTag : LineMap → Type 0
HasStrongTag update = IsSomeAnd (tag_in update) (λ tag. ¬ (IsTrue (is_weak tag)))

-- the message has an entity tag or a date of its last modification, valid or not
abbrev pub HasValidator : LineMap → Type 0
HasValidator message = IsPresent (codes "etag") message ⊎ IsPresent (codes "last-modified") message

-- each member of Connection is an option: a token (RFC 9110, section 7.6.1)
abbrev pub HasOptions : LineMap → Type 0
HasOptions message = IsTrue (list_all is_token_member (field_members true (message (codes "connection"))))

-- the entity tag of the 304, if it has one, is that of the stored response
abbrev pub HasSameTag : LineMap → LineMap → Type 0
HasSameTag stored update = IsPresent (codes "etag") update
    → IsSomeAnd (tag_in update) (λ tag. IsSomeAnd (tag_in stored) (λ own. IsTagOf own tag))

-- the date of the 304, if it has one, is that of the stored response, to the byte; a strong tag decides alone
abbrev pub HasSameDate : LineMap → LineMap → Type 0
HasSameDate stored update = IsPresent (codes "last-modified") update
    → HasStrongTag update ⊎ (stored (codes "last-modified") ≡ update (codes "last-modified"))

-- The 304 is about the stored response: it has its validators, and none only if the stored response has none. If its
-- Connection isn't a list of options, it isn't known which fields are those of the connection, and nothing is updated.
pub record IsUpdated (stored update : LineMap) : Type 0 where
  pub tag : HasSameTag stored update
  pub date : HasSameDate stored update
  pub none : HasValidator stored → HasValidator update
  pub options : HasOptions update
