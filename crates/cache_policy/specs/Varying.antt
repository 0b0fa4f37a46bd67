-- Whether a stored response may answer another request, by its method and by Vary (RFC 9111, sections 4 and 4.1).
use Rattle.std.specs.Prelude.{◌≡◌, ◌≢◌, ◌⊎◌, ℕ, Bool, true, not, List, [], ◌∷◌, All, IsTrue, Option, Some, None}
use Rattle.{std.specs.{Prelude.{bytes_eq, codes}, List.{list_all, list_any}}, http_header.specs.Token.IsToken}
use Rattle.{http_header.specs.Token.lowercase, headers.specs.{LineMap.LineMap, Lines.Line, Typed.HasLine}}
use Rattle.rfc_fields.specs.{Members.{field_members, is_whole}, Scan.{Member, Member.{Whole, Malformed}}}
use Rattle.cache_policy.specs.Requests.{AllowsMethod, Request}

-- The fields of a request that are lists by comma, and have no comments: RFC 9110, sections 7.6.1, 7.8, 10.1.1, 10.1.4,
-- 12.5 and 13.1; RFC 9111, section 5.2; and the Fetch standard's list of names.
abbrev pub list_names : List (List ℕ)
list_names =
    codes "accept"
    ∷ codes "accept-charset"
    ∷ codes "accept-encoding"
    ∷ codes "accept-language"
    ∷ codes "access-control-request-headers"
    ∷ codes "cache-control"
    ∷ codes "connection"
    ∷ codes "expect"
    ∷ codes "if-match"
    ∷ codes "if-none-match"
    ∷ codes "te"
    ∷ codes "upgrade"
    ∷ []

-- the name, in lower case, is one of these
unfoldable pub is_list_name : List ℕ → Bool
is_list_name name = list_any (λ list. bytes_eq name list) list_names

-- the lists of entity tags
abbrev pub tag_names : List (List ℕ)
tag_names = codes "if-match" ∷ codes "if-none-match" ∷ []

-- a backslash escapes the next byte in the quoted-strings of the list; an entity tag has no quoted-pairs (RFC 9110,
-- section 8.8.3)
unfoldable pub has_pairs : List ℕ → Bool
has_pairs name = not (list_any (λ list. bytes_eq name list) tag_names)

-- the same members in the same order, none of which is malformed
abbrev pub AreSame : List Member → List Member → Type 0
AreSame members others = (list_all is_whole members ≡ true) × (members ≡ others)

-- the member is the next one of another list too
abbrev pub IsSame : Member → Option Member → Type 0
IsSame (Whole text) (Some (Whole other)) = text ≡ other
IsSame (Whole text) (Some Malformed) = ⊥
IsSame (Whole text) None = ⊥
IsSame Malformed other = ⊥

-- Both fields are there, and have the same members in the same order. In which lines they are doesn't matter, nor does
-- white space around them.
pub record HaveSameMembers (pairs : Bool) (lines others : List Line) : Type 0 where
  pub present : HasLine lines
  pub also_present : HasLine others
  pub same : AreSame (field_members pairs lines) (field_members pairs others)

-- the field of this name, in lower case, says the same in both: it has the same lines, or it is a list of the same
abbrev pub SayTheSame : List ℕ → List Line → List Line → Type 0
SayTheSame name lines others =
    (lines ≡ others) ⊎ (IsTrue (is_list_name name) × HaveSameMembers (has_pairs name) lines others)

-- The requests agree in what a member of Vary names: it is a field name, not `*`, and the field says the same in both.
-- Names ignore case.
abbrev pub Agree : LineMap → LineMap → Member → Type 0
Agree stored request (Whole name) =
    IsToken name × (name ≢ codes "*")
    × SayTheSame (lowercase name) (stored (lowercase name)) (request (lowercase name))
Agree stored request Malformed = ⊥

-- they agree in all that Vary names
abbrev pub AreAlike : LineMap → LineMap → LineMap → Type 0
AreAlike stored request response = All (Agree stored request) (field_members true (response (codes "vary")))

-- the response, which answered the stored request, may answer the new one
pub record Suits (stored request : Request) (response : LineMap) : Type 0 where
  pub method : AllowsMethod stored.method request.method
  pub fields : AreAlike stored.fields request.fields response
