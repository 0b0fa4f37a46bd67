-- The opening handshake of a WebSocket (RFC 6455, section 4.2.2).
use Rattle.std.specs.Prelude.{◌≡◌, ℕ, List, Some, Result}
use Rattle.{websocket.specs.Handshake.{IsValidKey, accept_key_of}, headers.specs.Lines.{Line, only_line}}
use Rattle.c_parts.specs.{Endings.TellsAndWrites, declared.status.Failure.Failure}
use Rattle.c_decisions.specs.declared.handshake.{AnsweredHandshake.AnsweredHandshake, HandshakeFacts.HandshakeFacts}

-- the only line is the base64 of sixteen bytes, and this is what is answered to it
abbrev pub reads_accept : List Line → List ℕ → Type 0
reads_accept lines accept =
    (key : Line) × (only_line lines ≡ Some key) × IsValidKey key × (accept ≡ accept_key_of key)

-- a call that gives a server's answer has an answer of which P holds
abbrev pub WritesHandshake : (Result AnsweredHandshake Failure → Type 0) → (facts new_facts : HandshakeFacts)
    → (old new : List ℕ) → (before written status : ℕ) → Type 0
WritesHandshake =
    TellsAndWrites (λ (shown : AnsweredHandshake). shown.facts) (λ (shown : AnsweredHandshake). shown.text.items)
