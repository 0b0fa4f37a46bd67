-- Both ends together: what a server makes of a request, and what a client finds in the fields of an answer.
use Rattle.std.proofs.Common.{◌≡◌, ◌↔◌, ℕ, List, [], ◌∷◌, Option, Some, None, inl, refl, sym, ◌∙◌, ap, arith, codes}
use Rattle.{std.specs.Prelude.⊤, http.specs.declared.version.{Version.Version, TheConstants.Version.HTTP_11}}
use Rattle.{http_header.specs.FieldValue.FieldValue, websocket.specs.Handshake.{IsValidKey, accept_key_of}}
use Rattle.{headers.specs.{LineMap.LineMap, Lines.{Line, only_line}}, decide_handshake.specs.Client.AcceptsKey}
use Rattle.decide_handshake.specs.{Client.{IsOpened, SendsKey}, Extensions.HasExtensions, Origins.OriginList}
use Rattle.decide_handshake.specs.declared.server.HandshakeAnswer.{HandshakeAnswer, TheVariants.{Switch, BadRequest}}
use Rattle.decide_handshake.specs.declared.server.HandshakeAnswer.TheVariants.{UpgradeRequired, Forbidden}
use Rattle.decide_handshake.specs.declared.client.Flaw.TheVariants.{NotSwitched, UnaskedProtocol, WrongAccept}
use Rattle.decide_handshake.specs.Messages.{Carries, CarriesButOffers, FitsProtocol, answer_fields, request_fields}
use Rattle.decide_handshake.specs.{Messages.status_of, Protocols.{AsksFor, OffersProtocols, UsesAskedProtocol}}
use Rattle.decide_handshake.specs.Server.{Answers, HasHost, HasKey, IsHandshake, IsSwitch, Switches}
use Rattle.decide_handshake.proofs.{ClientLemmas.opened, ServerLemmas.one_key, FieldLemmas.lists_upgrade}
use Rattle.decide_handshake.proofs.{FieldLemmas.lists_websocket, ProtocolLemmas.{taken_asked, uses_asked, uses_this}}

-- a request with the fields of a handshake, and with offers by their grammar, is one
pub offering_is_handshake : (key : Line) (map request : LineMap) → IsValidKey key → HasHost map
    → CarriesButOffers (request_fields key) map request → OffersProtocols request → HasExtensions request
    → IsHandshake (codes "GET") HTTP_11 request key
offering_is_handshake key map request valid host carries protocols extensions =
    let keeps_host : HasHost request = rw (carries (codes "host") refl) host in
    record {
      get = refl;
      http11 = refl;
      host = keeps_host;
      upgrade = lists_websocket request (carries (codes "upgrade") refl);
      connection = lists_upgrade request (carries (codes "connection") refl);
      has_key = record {
        only = ap only_line (carries (codes "sec-websocket-key") refl);
        is_key = valid;
      };
      has_version = ap only_line (carries (codes "sec-websocket-version") refl);
      protocols = protocols;
      extensions = extensions;
    }

-- and so is one that offers nothing
pub asking_is_handshake : (key : Line) (map request : LineMap) → IsValidKey key → HasHost map
    → Carries (request_fields key) map request → IsHandshake (codes "GET") HTTP_11 request key
asking_is_handshake key map request valid host carries =
    offering_is_handshake key map request valid host (λ name _. carries name)
    (inl (carries (codes "sec-websocket-protocol"))) (inl (carries (codes "sec-websocket-extensions")))

-- a response with the fields of a switch opens the connection exactly for those whose key calls for its accept value
-- and which asked for its subprotocol
module _ (accept : Line) (sent response : LineMap) (key : Line) (Fits : Type 0) where
  opens_by_lines : SendsKey sent key → response (codes "upgrade") ≡ codes "websocket" ∷ []
      → response (codes "connection") ≡ codes "upgrade" ∷ [] → response (codes "sec-websocket-accept") ≡ accept ∷ []
      → response (codes "sec-websocket-extensions") ≡ [] → (UsesAskedProtocol sent response → Fits)
      → (Fits → UsesAskedProtocol sent response) → IsOpened sent 101 response ↔ ((accept ≡ accept_key_of key) × Fits)
  opens_by_lines sends upgrade connection value extensions fits uses =
      let found : only_line (response (codes "sec-websocket-accept")) ≡ Some accept = ap only_line value in (
        (λ opens.
            let wanted = opens WrongAccept in
            let same : wanted.key ≡ key = cc (wanted.sends, sends) in
            let calls : Some accept ≡ Some (accept_key_of wanted.key) = sym found ∙ wanted.accepts in
            let bytes : accept ≡ accept_key_of wanted.key = cc calls in
            (bytes ∙ ap accept_key_of same, fits (opens UnaskedProtocol))),
        (λ both.
            let accepts : AcceptsKey sent response =
            record { key = key; sends = sends; accepts = found ∙ ap (λ (line : Line). Some line) both.0 } in
            opened sent 101 response (
              (
                (((((tt, refl), rw upgrade refl), lists_upgrade response connection), accepts), inl extensions),
                inl extensions,
              ),
              uses both.1,
            )),
      )

opens_by_value : (accept : FieldValue) (protocol : Option FieldValue) (map response sent : LineMap) (key : Line)
    → SendsKey sent key → Carries (answer_fields (Switch accept protocol)) map response
    → IsOpened sent 101 response ↔ ((accept.bytes ≡ accept_key_of key) × FitsProtocol sent (Switch accept protocol))
opens_by_value accept None map response sent key sends carries = opens_by_lines accept.bytes sent response key ⊤ sends
    (carries (codes "upgrade")) (carries (codes "connection")) (carries (codes "sec-websocket-accept"))
    (carries (codes "sec-websocket-extensions")) (λ _. tt) (λ _. inl (carries (codes "sec-websocket-protocol")))
opens_by_value accept (Some protocol) map response sent key sends carries = opens_by_lines accept.bytes sent response
    key (AsksFor sent protocol.bytes) sends (carries (codes "upgrade")) (carries (codes "connection"))
    (carries (codes "sec-websocket-accept")) (carries (codes "sec-websocket-extensions"))
    (uses_this sent response protocol.bytes (carries (codes "sec-websocket-protocol")))
    (uses_asked sent response protocol.bytes (carries (codes "sec-websocket-protocol")))

module _ (method : List ℕ) (version : Version) (request : LineMap) (origins : OriginList) (own : List FieldValue) where
  -- what a server takes was asked for
  takes_asked : (accept : FieldValue) (protocol : Option FieldValue)
      → Switches method version request origins own accept protocol → FitsProtocol request (Switch accept protocol)
  takes_asked accept None switches = tt
  takes_asked accept (Some protocol) switches = taken_asked _ _ _ switches.accepted.handshake.protocols switches.picked

  -- what a switch answers opens the connection for those that sent another handshake exactly if both keys call for one
  -- value, and it asks for the subprotocol too
  pub opens_for : (a : HandshakeAnswer) (map response sent : LineMap) (key other : Line)
      → Answers method version request origins own a → IsSwitch a → HasKey request key → SendsKey sent other
      → Carries (answer_fields a) map response
      → IsOpened sent (status_of a) response ↔ ((accept_key_of key ≡ accept_key_of other) × FitsProtocol sent a)
  opens_for (Switch accept protocol) map response sent key other h s has sends carries =
      let same = one_key method version request origins h.key key h.accepted.handshake.has_key has in
      let value : accept.bytes ≡ accept_key_of key = rw h.value (ap accept_key_of same) in
      let opens = opens_by_value accept protocol map response sent other sends carries in (
        (λ it_opens. (sym value ∙ (opens.0 it_opens).0, (opens.0 it_opens).1)),
        (λ both. opens.1 (value ∙ both.0, both.1)),
      )
  opens_for (BadRequest fault) map response sent key other h s has sends carries = absurd s
  opens_for UpgradeRequired map response sent key other h s has sends carries = absurd s
  opens_for Forbidden map response sent key other h s has sends carries = absurd s

  -- so it opens the connection for the one that sent the request
  pub opens_for_sender : (a : HandshakeAnswer) (map response : LineMap) → Answers method version request origins own a
      → IsSwitch a → Carries (answer_fields a) map response → IsOpened request (status_of a) response
  opens_for_sender (Switch accept protocol) map response h s carries =
      let has : HasKey request h.key = h.accepted.handshake.has_key in
      (opens_for (Switch accept protocol) map response request h.key h.key h s has has.only carries).1
      (refl, takes_asked accept protocol h)
  opens_for_sender (BadRequest fault) map response h s carries = absurd s
  opens_for_sender UpgradeRequired map response h s carries = absurd s
  opens_for_sender Forbidden map response h s carries = absurd s

-- no other answer opens a connection
pub refusal_opens_none : (a : HandshakeAnswer) (sent response : LineMap) → ¬ (IsSwitch a)
    → ¬ (IsOpened sent (status_of a) response)
refusal_opens_none (Switch accept protocol) sent response refuses opens = refuses tt
refusal_opens_none (BadRequest fault) sent response refuses opens =
    let e : 400 ≡ 101 = opens NotSwitched in absurd (omega (arith, e))
refusal_opens_none UpgradeRequired sent response refuses opens =
    let e : 426 ≡ 101 = opens NotSwitched in absurd (omega (arith, e))
refusal_opens_none Forbidden sent response refuses opens =
    let e : 403 ≡ 101 = opens NotSwitched in absurd (omega (arith, e))
