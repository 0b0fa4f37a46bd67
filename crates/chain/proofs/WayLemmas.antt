-- What a resource behind gateways reads of a request is what the client sent.
use Rattle.std.proofs.Common.{◌≡◌, ◌≢◌, ◌↔◌, ℕ, Bool, true, false, List, [], ◌∷◌, Option, None, refl, sym, ◌∙◌, ap, inl}
use Rattle.std.proofs.{Common.{inr, codes}, lemmas.{Bool.cases_Bool, Slice.Eq.bytes_eq-Decides, List.Elements.All-cons}}
use Rattle.std.{proofs.lemmas.List.Elements.All-nil, specs.{Prelude.{All, ◌||◌, bytes_eq}, List.list_any}}
use Rattle.{headers.specs.Lines.Line, chain.specs.Ways.{IsSentOn, Reaches, end_to_end_lines, sent_directly}}
use Rattle.{rfc_fields.specs.{Members.field_members, Scan.Member}, gateway_messages.specs.Forwarding.own_names}
use Rattle.gateway_messages.specs.{Forwarding.replaced, Spellings.has_mark, declared.gateway.Gateway.Gateway}
use Rattle.gateway_messages.specs.{declared.protocol.Protocol.TheVariants.Http11, HopByHop.connection_options}
use Rattle.gateway_messages.specs.HopByHop.{hop_by_hop_fields, is_hop_by_hop, is_known, proxy_fields}
use Rattle.{gateway_messages.proofs.SpellingLemmas.well_spelt, decide_resource.specs.Answers.IsAnswer}
use Rattle.decide_resource.specs.{Requests.Request, Vary.{AreAlike, ChooseAlike}, declared.answer.Answer.Answer}
use Rattle.decide_resource.specs.declared.resource.Resource.{Resource}

-- ---- names

-- a name that isn't among some differs from each of them
pub differs : (name : List ℕ) (names : List (List ℕ)) → list_any (bytes_eq name) names ≡ false
    → All (λ other. other ≢ name) names
differs name [] none = All-nil (λ (other : List ℕ). other ≢ name)
differs name (first ∷ rest) none = elim (cases_Bool (bytes_eq name first)) [
  | inl t ↦ absurd (cc (none, ap (λ (b : Bool). b || list_any (bytes_eq name) rest) t))
  | inr f ↦
      let here : first ≢ name = λ same. absurd (cc (f, (bytes_eq-Decides name first).1 (sym same))) in
      let others : list_any (bytes_eq name) rest ≡ false
      = sym (ap (λ (b : Bool). b || list_any (bytes_eq name) rest) f) ∙ none in
      All-cons (λ (other : List ℕ). other ≢ name) first rest here (differs name rest others)
]

pub apart : (name : List ℕ) → bytes_eq name (codes "transfer-encoding") ≡ false → name ≢ codes "transfer-encoding"
apart name f same = absurd (cc (f, (bytes_eq-Decides name (codes "transfer-encoding")).1 same))

-- a name of no field of one connection
pub not_known : (name : List ℕ) → list_any (bytes_eq name) hop_by_hop_fields ≡ false
    → list_any (bytes_eq name) proxy_fields ≡ false → (consumes : Bool) → is_known consumes name ≡ false
not_known name e f true = rw (e, f) refl
not_known name e f false = rw e refl

-- ---- fields that a resource reads

-- a name that no gateway writes, and that is of no field of one connection
abbrev pub IsRead : List ℕ → Type 0
IsRead name =
    (bytes_eq (codes "host") name ≡ false) × (list_any (bytes_eq name) own_names ≡ false) × (has_mark name ≡ false)
    × (bytes_eq name (codes "transfer-encoding") ≡ false) × (list_any (bytes_eq name) hop_by_hop_fields ≡ false)
    × (list_any (bytes_eq name) proxy_fields ≡ false)

-- what a request asks and chooses by is in such fields
module _ (r s : Request) (each : (name : List ℕ) → IsRead name → r.fields name ≡ s.fields name) where
  pub alike_by : r.protocol ≡ s.protocol → r.method ≡ s.method → r.authority ≡ s.authority
      → r.fields (codes "host") ≡ s.fields (codes "host") → r.content ≡ s.content → r.denied ≡ s.denied → AreAlike r s
  alike_by protocol method authority host content denied = record {
    protocol = protocol;
    method = method;
    authority = authority;
    host = host;
    expect = each (codes "expect") (refl, refl, refl, refl, refl, refl);
    content = content;
    denied = denied;
    content_type = each (codes "content-type") (refl, refl, refl, refl, refl, refl);
    content_encoding = each (codes "content-encoding") (refl, refl, refl, refl, refl, refl);
    content_range = λ put. each (codes "content-range") (refl, refl, refl, refl, refl, refl);
    asks = record {
      if_match = each (codes "if-match") (refl, refl, refl, refl, refl, refl);
      if_none_match = each (codes "if-none-match") (refl, refl, refl, refl, refl, refl);
      if_modified_since = each (codes "if-modified-since") (refl, refl, refl, refl, refl, refl);
      if_unmodified_since = each (codes "if-unmodified-since") (refl, refl, refl, refl, refl, refl);
      range = each (codes "range") (refl, refl, refl, refl, refl, refl);
      if_range = each (codes "if-range") (refl, refl, refl, refl, refl, refl);
    };
  }

  pub choose_by : ChooseAlike r.fields s.fields
  choose_by = record {
    accept = each (codes "accept") (refl, refl, refl, refl, refl, refl);
    accept_language = each (codes "accept-language") (refl, refl, refl, refl, refl, refl);
    accept_encoding = each (codes "accept-encoding") (refl, refl, refl, refl, refl, refl);
    origin = each (codes "origin") (refl, refl, refl, refl, refl, refl);
    requested_method = each (codes "access-control-request-method") (refl, refl, refl, refl, refl, refl);
  }

-- ---- one gateway

module _ {gateway : Gateway} {request next : Request} (h : IsSentOn gateway request next) where
  -- a field that no gateway writes has the lines that are meant for the server
  pub same_lines : (name : List ℕ) → IsRead name → end_to_end_lines gateway request name ≡ next.fields name
  same_lines name is =
      let options = connection_options request.fields in
      elim (cases_Bool (is_hop_by_hop gateway.consumes_credentials options name)) [
        | inl t ↦
            rw (is.0, t) (sym (h.passed.fields name ∙ h.forwarded.fields.hop_by_hop name t (apart name is.3)))
        | inr f ↦
            rw (is.0, f) (sym (h.passed.fields name ∙ h.forwarded.fields.end_to_end name f (well_spelt _ _ is.2)
            (differs name own_names is.1)))
      ]

  pub alike : AreAlike (sent_directly gateway request) next
  alike = alike_by (sent_directly gateway request) next same_lines (sym h.passed.protocol) h.passed.method
      (sym h.passed.authority) (sym (h.passed.fields (codes "host") ∙ h.forwarded.fields.host)) h.passed.content
      h.passed.denied

  pub choose_alike : ChooseAlike (end_to_end_lines gateway request) next.fields
  choose_alike = choose_by (sent_directly gateway request) next same_lines

  pub no_options : connection_options next.fields ≡ []
  no_options =
      let none = h.passed.fields (codes "connection") ∙ h.forwarded.fields.hop_by_hop (codes "connection") refl
      (apart (codes "connection") refl) in
      ap (λ (lines : List Line). field_members true lines) none

-- ---- a request without connection options, from a gateway to the next one

module _ (gateway : Gateway) (request : Request) (modern : request.protocol ≡ Http11)
    (origin : request.authority ≡ None) (none : connection_options request.fields ≡ []) where
  pub crosses : (name : List ℕ) → IsRead name → request.fields name ≡ end_to_end_lines gateway request name
  crosses name is =
      let consumes = gateway.consumes_credentials in
      let end_to_end : is_hop_by_hop consumes (connection_options request.fields) name ≡ false
      = ap (λ (options : List Member). is_hop_by_hop consumes options name) none
      ∙ ap (λ (b : Bool). b || false) (not_known name is.4 is.5 consumes) in
      rw (is.0, end_to_end) refl

  pub direct : AreAlike request (sent_directly gateway request)
  direct = alike_by request (sent_directly gateway request) crosses modern refl origin
      (sym (ap (λ (o : Option Line). replaced o (request.fields (codes "host"))) origin)) refl refl

  pub choose_direct : ChooseAlike request.fields (end_to_end_lines gateway request)
  choose_direct = choose_by request (sent_directly gateway request) crosses

-- ---- any gateways

-- what a law of the resource says: requests that agree on what it reads get the same answers
abbrev pub ReadsNoMore : Type 0
ReadsNoMore = (present : ℕ) (resource : Resource) (r s : Request) (answer : Answer) → AreAlike r s
    → ChooseAlike r.fields s.fields → IsAnswer present resource r answer ↔ IsAnswer present resource s answer

module _ (reads : ReadsNoMore) (present : ℕ) (resource : Resource) (answer : Answer) where
  abbrev Gets : Request → Type 0
  Gets request = IsAnswer present resource request answer

  behind : (p next last : Request) → Gets p ↔ Gets next → next.protocol ≡ Http11 → next.authority ≡ None
      → connection_options next.fields ≡ [] → (gateways : List Gateway) → Reaches gateways next last
      → Gets p ↔ Gets last
  behind p next last first modern origin none [] same = rw same at first
  behind p next last first modern origin none (gateway ∷ gateways) way =
      let directly = reads present resource next (sent_directly gateway next) answer
      (direct gateway next modern origin none) (choose_direct gateway next modern origin none) in
      let onward = reads present resource (sent_directly gateway next) way.0 answer (alike way.1) (choose_alike way.1)
      in
      behind p way.0 last ((λ h. onward.0 (directly.0 (first.0 h))), (λ h. first.1 (directly.1 (onward.1 h))))
      way.1.passed.protocol way.1.passed.authority (no_options way.1) gateways way.2

  pub invisible : (gateway : Gateway) (gateways : List Gateway) (request last : Request)
      → Reaches (gateway ∷ gateways) request last → Gets (sent_directly gateway request) ↔ Gets last
  invisible gateway gateways request last way = behind (sent_directly gateway request) way.0 last
      (reads present resource (sent_directly gateway request) way.0 answer (alike way.1) (choose_alike way.1))
      way.1.passed.protocol way.1.passed.authority (no_options way.1) gateways way.2
