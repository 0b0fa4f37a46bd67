-- The gateways that a message passed (RFC 9110, section 7.6.3).
use Rattle.std.specs.{Prelude.{ℕ, Bool, ◌||◌, ◌==◌, List, ◌++◌, codes, bytes_eq}, List.{list_any, slice_split}}
use Rattle.{http_header.specs.Token.lowercase, headers.specs.Lines.Line}
use Rattle.gateway_messages.specs.declared.protocol.Protocol.{Protocol, TheVariants.{Http10, Http11}}

-- received-protocol, without the protocol name HTTP, and a space
abbrev pub version_text : Protocol → Line
version_text Http10 = codes "1.0 "
version_text Http11 = codes "1.1 "

-- the field line that a gateway adds to Via
abbrev pub via_line : Protocol → List ℕ → Line
via_line protocol pseudonym = version_text protocol ++ pseudonym

-- a comma, a tab or a space
abbrev pub ends_word : ℕ → Bool
ends_word b = b == 44 || b == 9 || b == 32

-- A word of the field line is the pseudonym, in any case. Words of comments count too: a pseudonym that only a comment
-- has is taken for a loop.
abbrev pub names_gateway : List ℕ → Line → Bool
names_gateway pseudonym line =
    list_any (λ word. bytes_eq (lowercase word) (lowercase pseudonym)) (slice_split ends_word line)

-- the message passed the gateway of this pseudonym
abbrev pub is_loop : List ℕ → List Line → Bool
is_loop pseudonym lines = list_any (names_gateway pseudonym) lines
