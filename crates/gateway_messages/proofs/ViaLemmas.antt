-- A field line of Via is a value of a field, and so is a pseudonym.
use Rattle.std.proofs.{Common.{ℕ, List, IsTrue, refl}, lemmas.List.Elements.All-append}
use Rattle.http_header.specs.{FieldValue.IsFieldValue, Token.{IsToken, is_value_byte}}
use Rattle.http_header.proofs.TokenLemmas.{AllPass-from_test, IsFieldValue-from_visible, IsVisibleAscii-from_token}
use Rattle.gateway_messages.specs.{Via.{version_text, via_line}, declared.protocol.Protocol.Protocol}

version_valid : (protocol : Protocol) → IsFieldValue (version_text protocol)
version_valid Protocol.Http10 = AllPass-from_test is_value_byte (version_text Protocol.Http10) refl
version_valid Protocol.Http11 = AllPass-from_test is_value_byte (version_text Protocol.Http11) refl

pub IsFieldValue-via_line : (protocol : Protocol) (pseudonym : List ℕ) → IsFieldValue pseudonym
    → IsFieldValue (via_line protocol pseudonym)
IsFieldValue-via_line protocol pseudonym valid =
    All-append (λ b. IsTrue (is_value_byte b)) (version_text protocol) pseudonym (version_valid protocol) valid

-- a token is a value of a field
pub IsFieldValue-token : (text : List ℕ) → IsToken text → IsFieldValue text
IsFieldValue-token text token = IsFieldValue-from_visible text (IsVisibleAscii-from_token text token)
