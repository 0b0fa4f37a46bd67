-- What the client of a request waits for before it sends the content (RFC 9110, section 10.1.1).
use Rattle.std.specs.{Prelude.{◌≡◌, ℕ, ◌==◌, ◌&&◌, not, Bool, true, false, List, [], ◌∷◌, codes}, List.list_all}
use Rattle.std.specs.List.{list_any}
use Rattle.{headers.specs.{LineMap.{LineMap, Field}, Lines.Line}, rfc_fields.specs.Directives.is_same_token}
use Rattle.{rfc_fields.specs.Members.field_members, gateway_messages.specs.declared.expectation.Expectation.Expectation}
use Rattle.gateway_messages.specs.declared.expectation.Expectation.TheVariants.{Absent, Forwarded, Answered}
use Rattle.gateway_messages.specs.declared.framing.Framing.{Framing, TheVariants.{Unstated, Length, Chunked}}
use Rattle.gateway_messages.specs.declared.protocol.Protocol.{Protocol, TheVariants.{Http10, Http11}}

-- the only expectation that is defined
abbrev pub continue_name : List ℕ
continue_name = codes "100-continue"

-- each member of Expect is that expectation, in any case; there may be none
abbrev pub has_known_expectation : List Line → Bool
has_known_expectation lines = list_all (is_same_token continue_name) (field_members true lines)

-- some member is that expectation
abbrev pub expects_continue : List Line → Bool
expects_continue lines = list_any (is_same_token continue_name) (field_members true lines)

-- content follows the fields
abbrev pub has_content : Framing → Bool
has_content Unstated = false
has_content (Length len) = not (len == 0)
has_content Chunked = true

-- The client waits for a 100. In HTTP/1.0, and where no content follows, an expectation is ignored.
abbrev pub is_awaited : Protocol → Framing → List Line → Bool
is_awaited Http10 framing lines = false
is_awaited Http11 framing lines = has_content framing && expects_continue lines

-- what becomes of an expectation, by the versions of the client and of the server
abbrev pub IsExpectation : Protocol → Protocol → Framing → LineMap → Expectation → Type 0
IsExpectation client server framing fields Absent = is_awaited client framing (fields (codes "expect")) ≡ false
IsExpectation client server framing fields Forwarded =
    (is_awaited client framing (fields (codes "expect")) ≡ true) × (server ≡ Http11)
IsExpectation client server framing fields Answered =
    (is_awaited client framing (fields (codes "expect")) ≡ true) × (server ≡ Http10)

-- Expect is forwarded as received, or not at all
abbrev pub expect_fields : Expectation → List Field
expect_fields Absent = (codes "expect", []) ∷ []
expect_fields Forwarded = []
expect_fields Answered = (codes "expect", []) ∷ []
