-- Each response has one outcome, what is forwarded of it is certain, and recipients delimit it alike.
use Rattle.std.proofs.Common.{arith, ◌≡◌, ℕ, Bool, true, false, List, refl, sym, ◌∙◌, ap, subst, inl, inr}
use Rattle.{std.{proofs.lemmas.Bool.cases_Bool, specs.Prelude.◌==◌}, headers.specs.LineMap.LineMap}
use Rattle.gateway_messages.specs.{FieldLines.{fields_of, lines_under}, Forwarding.Forwards, Framing.RejectsFraming}
use Rattle.gateway_messages.specs.declared.{framing.Framing.Framing, gateway.Gateway.Gateway}
use Rattle.gateway_messages.specs.declared.protocol.Protocol.{Protocol, TheVariants.{Http10, Http11}}
use Rattle.gateway_messages.specs.declared.{rejection.Rejection.Rejection, response.ForwardedResponse.ForwardedResponse}
use Rattle.gateway_messages.specs.HopByHop.{HasFairOptions, are_options, connection_options, names_protected}
use Rattle.gateway_messages.specs.Outcomes.{HasOneResponseOutcome, HasResponseOutcome, IsRejectedResponse}
use Rattle.gateway_messages.specs.Recipients.{Fits, KnowsPlain, Recipient, accepted_by, framing_by}
use Rattle.gateway_messages.specs.Responses.{IsAcceptedResponse, IsForwardedResponse, RejectsResponse, Response}
use Rattle.gateway_messages.specs.Responses.{StatesUnless, content_of, is_known_to, response_message, sent_framing}
use Rattle.gateway_messages.{specs.Responses.states_nothing, proofs.OneLemmas.{framed_or_not, one_framing, unframed}}
use Rattle.gateway_messages.proofs.{RecipientLemmas.{fitting, read_alike}, SureLemmas.sure}

-- ---- what is stated

one_stated : (ignored : Bool) (protocol : Protocol) (fields : LineMap) (a b : Framing)
    → StatesUnless ignored protocol fields a → StatesUnless ignored protocol fields b → a ≡ b
one_stated true protocol fields a b s t = s ∙ sym t
one_stated false protocol fields a b s t = one_framing protocol fields a b s t

unstated : (ignored : Bool) (protocol : Protocol) (fields : LineMap) (framing : Framing) (rejection : Rejection)
    → StatesUnless ignored protocol fields framing → ignored ≡ false → RejectsFraming protocol fields rejection → ⊥
unstated true protocol fields framing rejection s e r = cc e
unstated false protocol fields framing rejection s e r = unframed protocol fields framing rejection s r

fits_stated : (ignored : Bool) (protocol : Protocol) (fields : LineMap) (framing : Framing)
    → StatesUnless ignored protocol fields framing → Fits framing
fits_stated true protocol fields framing s = subst Fits (sym s) tt
fits_stated false protocol fields framing s = fitting protocol fields framing s

fits_sent : (client : Protocol) (framing : Framing) → Fits framing → Fits (sent_framing client framing)
fits_sent Http10 Framing.Unstated f = f
fits_sent Http10 (Framing.Length len) f = f
fits_sent Http10 Framing.Chunked f = tt
fits_sent Http11 Framing.Unstated f = f
fits_sent Http11 (Framing.Length len) f = f
fits_sent Http11 Framing.Chunked f = f

-- ---- one outcome

pub unaccepted : (gateway : Gateway) (response : Response) (framing : Framing) (rejection : Rejection)
    → IsAcceptedResponse gateway response framing → RejectsResponse gateway response rejection → ⊥
unaccepted gateway response framing Rejection.InvalidOption a r = cc (a.options.listed, r)
unaccepted gateway response framing Rejection.ProtectedOption a r = cc (a.options.unprotected, r)
unaccepted gateway response framing Rejection.InvalidHost a r = r.1
unaccepted gateway response framing Rejection.InvalidHops a r = r.1
unaccepted gateway response framing Rejection.Loop a r = r.1
unaccepted gateway response framing Rejection.UnknownExpectation a r = r.1
unaccepted gateway response framing Rejection.SwitchedProtocols a r = cc (a.same_protocol, r)
unaccepted gateway response framing rejection a r = unstated _ _ _ framing rejection a.states r.0 r.1

pub one_response_outcome : (gateway : Gateway) (response : Response) → HasOneResponseOutcome gateway response
one_response_outcome gateway response = grind (arith, unaccepted, gateway, response)

pub some_response_outcome : (gateway : Gateway) (response : Response) → HasResponseOutcome gateway response
some_response_outcome gateway response = elim (cases_Bool (response.status == 101)) [
  | inl t ↦ inl (Rejection.SwitchedProtocols, t)
  | inr same ↦ elim (cases_Bool (are_options (connection_options response.fields))) [
    | inr f ↦ inl (Rejection.InvalidOption, f)
    | inl listed ↦
        elim (cases_Bool (names_protected gateway.protected.items (connection_options response.fields))) [
          | inl t ↦ inl (Rejection.ProtectedOption, t)
          | inr unprotected ↦ by same (record { listed = listed; unprotected = unprotected })
              (states_nothing response.method response.status) refl
        ]
  ]
]
  where
    accept : (framing : Framing) → IsAcceptedResponse gateway response framing → HasResponseOutcome gateway response
    accept framing a = elim (cases_Bool (is_known_to response.client response.status)) [
      | inl t ↦ inr (inr (record { stated = framing; accepted = a; known = t }))
      | inr f ↦ inr (inl (record { stated = framing; accepted = a; unknown = f }))
    ]

    unframe : states_nothing response.method response.status ≡ false → (rejection : Rejection)
        → RejectsFraming response.protocol response.fields rejection → IsRejectedResponse gateway response
    unframe e Rejection.LengthAndCoding r = (Rejection.LengthAndCoding, (e, r))
    unframe e Rejection.InvalidLength r = (Rejection.InvalidLength, (e, r))
    unframe e Rejection.UnknownCoding r = (Rejection.UnknownCoding, (e, r))
    unframe e Rejection.LastCodingNotChunked r = (Rejection.LastCodingNotChunked, (e, r))
    unframe e Rejection.CodingInHttp10 r = (Rejection.CodingInHttp10, (e, r))
    unframe e rejection r = absurd r

    by : (response.status == 101) ≡ false → HasFairOptions gateway response.fields → (ignored : Bool)
        → states_nothing response.method response.status ≡ ignored → HasResponseOutcome gateway response
    by same options true e = let states : StatesUnless
        (states_nothing response.method response.status) response.protocol response.fields Framing.Unstated = subst
        (λ (b : Bool). StatesUnless b response.protocol response.fields Framing.Unstated) (sym e) refl in
        accept Framing.Unstated (record { states = states; options = options; same_protocol = same })
    by same options false e = elim (framed_or_not response.protocol response.fields) [
      | inl r ↦ inl (unframe e r.0 r.1)
      | inr f ↦
          let states : StatesUnless (states_nothing response.method response.status) response.protocol response.fields
          f.0 = subst (λ (b : Bool). StatesUnless b response.protocol response.fields f.0) (sym e) f.1 in
          accept f.0 (record { states = states; options = options; same_protocol = same })
    ]

-- ---- what is forwarded

pub one_response : (gateway : Gateway) (date : ℕ) (response : Response) (a b : ForwardedResponse)
    → IsForwardedResponse gateway date response a → IsForwardedResponse gateway date response b
    → (a.content ≡ b.content) × (a.framing ≡ b.framing)
    × ((name : List ℕ) → lines_under (fields_of a.fields.items) name ≡ lines_under (fields_of b.fields.items) name)
one_response gateway date response a b p q =
    let stated : p.stated ≡ q.stated = one_stated _ _ _ _ _ p.accepted.states q.accepted.states in
    let framing = p.framing ∙ ap (λ (f : Framing). sent_framing response.client f) stated ∙ sym q.framing in
    let fields : Forwards gateway (response_message date response a.framing) response.fields
    (lines_under (fields_of b.fields.items)) = rw (← framing) at q.fields in (
      p.content ∙ ap (λ (f : Framing). content_of response.method response.status f) stated ∙ sym q.content,
      framing,
      sure gateway (response_message date response a.framing) response.fields _ _ p.fields fields,
    )

pub response_alike : (gateway : Gateway) (date : ℕ) (response : Response) (sent : ForwardedResponse)
    (recipient : Recipient) → IsForwardedResponse gateway date response sent → KnowsPlain recipient
    → framing_by recipient (fields_of sent.fields.items) ≡ accepted_by recipient sent.framing
response_alike gateway date response sent recipient p k =
    let fits : Fits p.stated = fits_stated _ _ _ _ p.accepted.states in
    let sent_fits : Fits sent.framing = subst Fits (sym p.framing) (fits_sent _ _ fits) in
    read_alike _ _ _ _ _ p.fields sent_fits k
