-- A client's result for the response to its opening handshake (RFC 6455, section 4.1, the last list).
use Rattle.std.specs.Prelude.{◌≡◌, ℕ, Some, IsSomeAnd, codes}
use Rattle.{http_header.specs.Token.lowercase, websocket.specs.Handshake.accept_key_of, headers.specs.LineMap.LineMap}
use Rattle.{headers.specs.Lines.{Line, only_line}, decide_handshake.specs.Extensions.HasExtensions}
use Rattle.decide_handshake.specs.{Extensions.UsesAskedExtensions, Fields.ListsUpgrade, Protocols.UsesAskedProtocol}
use Rattle.decide_handshake.specs.{Rules.{IsFirstBroken, KeepsAll}, declared.client.Checked.{Checked, TheVariants.Open}}
use Rattle.decide_handshake.specs.declared.client.{Checked.TheVariants.Fail, Flaw.{Flaw, TheVariants.NotSwitched}}
use Rattle.decide_handshake.specs.declared.client.Flaw.TheVariants.{NoUpgrade, NoConnection, WrongAccept}
use Rattle.decide_handshake.specs.declared.client.Flaw.TheVariants.{MalformedExtensions, UnaskedExtension}
use Rattle.decide_handshake.specs.declared.client.Flaw.TheVariants.{UnaskedProtocol}

-- 1: the status is 101
abbrev pub IsSwitched : ℕ → Type 0
IsSwitched status = status ≡ 101

-- 2: the only line of Upgrade is `websocket`, ignoring the case of ASCII letters
abbrev pub NamesWebsocket : LineMap → Type 0
NamesWebsocket response =
    IsSomeAnd (only_line (response (codes "upgrade"))) (λ line. lowercase line ≡ codes "websocket")

-- the only line of Sec-WebSocket-Key that was sent is this one
abbrev pub SendsKey : LineMap → Line → Type 0
SendsKey sent key = only_line (sent (codes "sec-websocket-key")) ≡ Some key

-- 4: the only line of Sec-WebSocket-Accept is the accept value of the key that was sent
pub record AcceptsKey (sent response : LineMap) : Type 0 where
  pub key : Line
  pub sends : SendsKey sent key
  pub accepts : only_line (response (codes "sec-websocket-accept")) ≡ Some (accept_key_of key)

-- the place of each rule in the order of the list
abbrev pub flaw_number : Flaw → ℕ
flaw_number NotSwitched = 0
flaw_number NoUpgrade = 1
flaw_number NoConnection = 2
flaw_number WrongAccept = 3
flaw_number MalformedExtensions = 4
flaw_number UnaskedExtension = 5
flaw_number UnaskedProtocol = 6

module _ (sent : LineMap) (status : ℕ) (response : LineMap) where
  -- the rule that each flaw breaks; the grammar of extensions is of section 9.1
  abbrev pub Rule : Flaw → Type 0
  Rule NotSwitched = IsSwitched status
  Rule NoUpgrade = NamesWebsocket response
  Rule NoConnection = ListsUpgrade response
  Rule WrongAccept = AcceptsKey sent response
  Rule MalformedExtensions = HasExtensions response
  Rule UnaskedExtension = UsesAskedExtensions sent response
  Rule UnaskedProtocol = UsesAskedProtocol sent response

  -- the response opens the connection: it breaks no rule
  abbrev pub IsOpened : Type 0
  IsOpened = KeepsAll flaw_number Rule

  -- which facts give each result
  abbrev pub Checks : Checked → Type 0
  Checks Open = IsOpened
  Checks (Fail flaw) = IsFirstBroken flaw_number Rule flaw
