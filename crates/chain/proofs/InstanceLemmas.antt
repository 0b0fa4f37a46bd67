-- A client, a gateway, a cache that answers from its store, and the server of a resource that is gone.
use Rattle.std.proofs.Common.{◌≡◌, ◌≢◌, ◌⊎◌, ℕ, zero, suc, ◌<◌, ◌≤◌, true, false, List, [], ◌∷◌, ◌++◌, map, Some, None}
use Rattle.std.proofs.{Common.{refl, sym, ◌∙◌, subst, inl, inr, arith}, lemmas.Bool.cases_Bool}
use Rattle.std.proofs.lemmas.{Slice.Eq.bytes_eq-Decides, List.Elements.{All-cons, All-nil}, Option.same_Some}
use Rattle.{std.specs.Prelude.{All, bytes_eq, codes, decimal, slice_get, ⊤}, http_header.specs.FieldValue.FieldValue}
use Rattle.http_header.specs.{FieldValue.plain_value, HeaderMap.Entries, Token.is_token_byte}
use Rattle.headers.specs.{LineMap.{LineMap, lines_at}, Lines.Line, declared.Encoded.Encoded}
use Rattle.rfc_fields.specs.{Directives.directive_in, Scan.{pieces, push}, Values.{is_quoted_text, octets_from}}
use Rattle.cache_store.specs.{Changes.{IsInserted, IsStoredAs, IsToStore}, Contents.{Contents, size_at}}
use Rattle.cache_store.specs.{Lookups.IsAnswer as IsLookup, declared.lookup.Lookup.{TheVariants.Serve}}
use Rattle.cache_policy.specs.{Age.age_at, Fields.capped, Policies.plain, declared.Kind.TheVariants.Shared}
use Rattle.cache_rules.specs.{Selection.{IsCandidate, IsVarying}, Stored.{fields_of_stored, made_at, times_of}}
use Rattle.cache_rules.specs.declared.{storing.Reception.TheVariants.Complete, stored.StoredResponse.StoredResponse}
use Rattle.gateway_messages.specs.{FieldLines.{fields_of as sent_fields, lines_under}, Forwarding.IsEndToEnd}
use Rattle.gateway_messages.specs.{Forwarding.{IsHopByHop, own_names}, HostTests.is_reg_name, Responses.content_of}
use Rattle.gateway_messages.specs.{Spellings.is_misspelt, declared.field_line.FieldLine.FieldLine}
use Rattle.gateway_messages.specs.declared.{gateway.Gateway.Gateway, framing.Framing.TheVariants.Unstated}
use Rattle.{gateway_messages.specs.declared.protocol.Protocol.TheVariants.Http11, decide_cors.proofs.MadeLemmas.vec}
use Rattle.decide_resource.specs.{Answers.{HasFewParts, TakesFew}, Applies.{applies, rule_for}, Reasons.Before}
use Rattle.decide_resource.specs.{Requests.Request, declared.reason.Reason.Reason}
use Rattle.decide_resource.specs.declared.{request.RequestContent.TheVariants.Absent, resource.Resource.Resource}
use Rattle.chain.specs.Caches.{Caching, HasComeFrom, IsFromStore, IsPlain, Origin, Reply, Act.Takes, asked, key_of}
use Rattle.chain.specs.{Caches.per_second, Chains.{IsSentBack, behind}, Instances.IsInstance, Servers.{IsSaid, IsSent}}
use Rattle.chain.{specs.{Servers.Server, Ways.IsSentOn}, proofs.AgeLemmas.age_of-decimal}
use Rattle.chain.proofs.ServingLemmas.{without_special}
use Rattle.decide_resource.specs.declared.answer.Sends.TheVariants as sends
use Rattle.decide_resource.specs.declared.reason.Reason.TheVariants as reasons
use Rattle.decide_resource.specs.declared.resource.State.TheVariants as state

-- ---- values

abbrev pub encoded : List ℕ → Line → Encoded
encoded name line = record { name = name; lines = vec (plain_value line ∷ []) (omega arith) }

-- names with a field line each
abbrev Lines : Type 0
Lines = List (List ℕ × Line)

abbrev entries : Lines → Entries FieldValue
entries fields = map (λ field. (field.0, plain_value field.1 ∷ [])) fields

abbrev sent : Lines → List FieldLine
sent fields = map (λ field. record { name = field.0; value = plain_value field.1 }) fields

-- ---- of some names, and of all others

abbrev AllOf : (List ℕ → Type 0) → List (List ℕ) → Type 0
AllOf P [] = ⊤
AllOf P (name ∷ names) = P name × AllOf P names

abbrev Apart : List (List ℕ) → List ℕ → Type 0
Apart [] name = ⊤
Apart (first ∷ names) name = (bytes_eq first name ≡ false) × Apart names name

each : (P : List ℕ → Type 0) (names : List (List ℕ)) (name : List ℕ) → AllOf P names → (Apart names name → P name)
    → P name
each P [] name all others = others tt
each P (first ∷ names) name all others = elim (cases_Bool (bytes_eq first name)) [
  | inl t ↦ subst P ((bytes_eq-Decides first name).0 t) all.0
  | inr f ↦ each P names name all.1 (λ apart. others (f, apart))
]

-- ---- the server

abbrev gone : Resource
gone = record {
  hosts = None;
  implemented = vec [] (omega arith);
  rules = vec
      (record { method = codes "GET"; takes = []; creates = false; needs_condition = false; takes_parts = false }
      ∷ []) (omega arith);
  state = state.Gone;
  representations = vec [] (omega arith);
  negotiation = record { media_type = false; language = false; coding = false; is_strict = false };
  boundary = plain_value (codes "b");
  has_strong_dates = false;
  needs_length = false;
  limit = None;
  cors = None;
}

-- ---- the messages

abbrev host_line : List ℕ × Line
host_line = (codes "host", codes "a")

abbrev via_line : List ℕ × Line
via_line = (codes "via", codes "1.1 g")

abbrev stored_lines : Lines
stored_lines =
    (codes "cache-control", codes "max-age=99999999999") ∷ (codes "date", codes "Thu, 01 Jan 1970 00:00:00 GMT") ∷ []

abbrev pub stored : StoredResponse
stored = record {
  method = codes "GET";
  request = entries (host_line ∷ via_line ∷ []);
  status = 410;
  response = entries stored_lines;
  content = codes "gone";
  requested = 0;
  received = 0;
  number = 0;
}

-- how old it is as the clock shows 1
abbrev old : ℕ
old = age_at (times_of stored 1) (fields_of_stored stored)

abbrev pub age_line : Line
age_line = decimal (capped old)

abbrev served_lines : Lines
served_lines = stored_lines ++ (codes "age", age_line) ∷ []

abbrev asks : Lines → Request
asks fields = record {
  protocol = Http11;
  method = codes "GET";
  authority = None;
  content = Absent;
  fields = lines_at (entries fields);
  denied = None;
}

abbrev request : Request
request = asks (host_line ∷ [])

abbrev pub next : Request
next = asks (host_line ∷ via_line ∷ [])

abbrev replies : LineMap → Reply
replies fields = record { status = 410; fields = fields; content = codes "gone" }

-- ---- the gateway

abbrev gateway : Gateway
gateway = record {
  pseudonym = codes "g";
  consumes_credentials = true;
  protected = vec [] (omega arith);
  passes_underscores = false;
}

-- of field lines it forwards all, and Via behind them
module _ (given : Lines) where
  abbrev before : LineMap
  before = lines_at (entries given)

  abbrev after : LineMap
  after = lines_under (sent_fields (sent (given ++ via_line ∷ [])))

  -- a name that it forwards, or one that isn't there
  abbrev IsFair : List ℕ → Type 0
  IsFair name = ((is_misspelt gateway name ≡ false) × IsEndToEnd gateway before name
      × (All (λ own. own ≢ name) own_names → after name ≡ before name)) ⊎ ((after name ≡ []) × (before name ≡ []))

  module _ (fair : (name : List ℕ) → IsFair name) where
    crosses : (name : List ℕ) → IsEndToEnd gateway before name → is_misspelt gateway name ≡ false
        → All (λ own. own ≢ name) own_names → after name ≡ before name
    crosses name end_to_end spelt not_own = elim (fair name) [ inl h ↦ h.2 not_own | inr h ↦ h.0 ∙ sym h.1 ]

    drops : (name : List ℕ) → is_misspelt gateway name ≡ true → after name ≡ []
    drops name misspelt = elim (fair name) [ inl h ↦ absurd (cc (h.0, misspelt)) | inr h ↦ h.0 ]

    ends : (name : List ℕ) → IsHopByHop gateway before name → name ≢ codes "transfer-encoding" → after name ≡ []
    ends name hop other = elim (fair name) [ inl h ↦ absurd (cc (h.1, hop)) | inr h ↦ h.0 ]

fair_asked : (name : List ℕ) → IsFair (host_line ∷ []) name
unfolding is_misspelt
fair_asked name = each (IsFair (host_line ∷ [])) (codes "host" ∷ codes "via" ∷ []) name
    (inl (refl, refl, λ own. refl), (inl (refl, refl, λ own. absurd (own 0 [] (omega arith) refl)), tt))
    (λ apart. inr (rw (apart.0, apart.1.0) refl, rw apart.0 refl))

there : IsSentOn gateway request next
unfolding is_reg_name
there = record {
  sent = record { framing = Unstated; hops = None; fields = vec (sent (host_line ∷ via_line ∷ [])) (omega arith) };
  forwarded = assumption
      (crosses (host_line ∷ []) fair_asked, drops (host_line ∷ []) fair_asked, ends (host_line ∷ []) fair_asked);
  passed = assumption passed_fields;
}
  where
    passed_fields : (name : List ℕ) → next.fields name ≡ after (host_line ∷ []) name
    passed_fields name = each (λ (name : List ℕ). next.fields name ≡ after (host_line ∷ []) name)
        (codes "host" ∷ codes "via" ∷ []) name (refl, (refl, tt)) (λ apart. rw (apart.0, apart.1.0) refl)

abbrev served : Reply
served = replies (before served_lines)

abbrev reply : Reply
reply = replies (after served_lines)

fair_served : (name : List ℕ) → IsFair served_lines name
unfolding is_misspelt
fair_served name =
    each (IsFair served_lines) (codes "cache-control" ∷ codes "date" ∷ codes "age" ∷ codes "via" ∷ []) name (
      inl (refl, refl, λ own. refl),
      (
        inl (refl, refl, λ own. refl),
        (
          inl (refl, refl, λ own. refl),
          (inl (refl, refl, λ own. absurd (own 0 [] (omega arith) refl)), tt),
        ),
      ),
    ) (
    λ apart. inr (
      rw (apart.0, apart.1.0, apart.1.1.0, apart.1.1.1.0) refl,
      rw (apart.0, apart.1.0, apart.1.1.0) refl,
    )
    )

back : IsSentBack gateway served reply
back = record {
  response = record {
    protocol = Http11;
    status = 410;
    fields = served.fields;
    method = codes "GET";
    client = Http11;
  };
  received = record { status = refl; fields = λ name. refl };
  date = 0;
  sent = record {
    content = content_of (codes "GET") 410 Unstated;
    framing = Unstated;
    fields = vec (sent (served_lines ++ via_line ∷ [])) (omega arith);
  };
  forwarded = record {
    stated = Unstated;
    accepted = assumption;
    known = refl;
    content = refl;
    framing = refl;
    fields = assumption
        (crosses served_lines fair_served, drops served_lines fair_served, ends served_lines fair_served);
  };
  status = refl;
  fields = λ name. refl;
  content = refl;
}

-- ---- the cache

plain_request : IsPlain (codes "/") next
plain_request = record {
  read = record { method = inl refl; protocol = refl; authority = refl; content = refl; admitted = refl };
  path = [];
  is_path = refl;
  host = codes "a";
  has_host = refl;
  bare = refl;
  without = without_special next.fields refl;
}

abbrev pub contents : Contents
contents = (key_of (codes "/") next, stored ∷ []) ∷ []

abbrev pub caching : Caching
caching = record {
  policy = plain Shared;
  limits = record { variants = 9; responses = 9; bytes = 9999 };
  most = 0;
  clock = record { ticks = λ time. time; set = 0; runs = λ time later past after. omega (arith, after) };
}

pub is_to_store : IsToStore (plain Shared) stored Complete
unfolding pieces push directive_in is_quoted_text is_token_byte octets_from
is_to_store = grind arith

pub stored_as : IsStoredAs stored stored
stored_as =
    let hop_by_hop : (name : List ℕ) → IsHopByHop gateway (before stored_lines) name → name ≢ codes "date"
    → before stored_lines name ≡ [] = λ name. each
    (λ (name : List ℕ). IsHopByHop gateway (before stored_lines) name → name ≢ codes "date"
    → before stored_lines name ≡ []) (codes "cache-control" ∷ codes "date" ∷ []) name (
      (λ e other. absurd (cc e)),
      ((λ e other. absurd (cc e)), tt),
    ) (λ apart e other. rw (apart.0, apart.1.0) refl) in
    search (hop_by_hop, arith)

pub inserted : IsInserted caching.limits (key_of (codes "/") next) stored [] contents
unfolding size_at
inserted = record {
  others = [];
  kept = [];
  rest = [];
  beside = inl ((λ k other at h. absurd (cc at)), refl);
  trimmed = record {
    count = 0;
    left = refl;
    fits = record { variants = omega arith; few = omega arith; light = omega arith };
    fewest = λ less. absurd (omega (arith, less));
  };
  room = record {
    count = 0;
    within = omega arith;
    front = refl;
    room = record { few = omega arith; light = omega arith };
    longest = λ less. absurd (omega (arith, less));
  };
  put = refl;
}

-- whatever its Date says, it isn't older than the year 0
young : capped old < 99_999_999_999
young = omega arith

only : (k : ℕ) (other : StoredResponse) → slice_get (stored ∷ []) k ≡ Some other → (k ≡ 0) × (other ≡ stored)
only zero other at = (refl, sym (same_Some _ _ at))
only (suc k) other at = absurd (cc at)

not_less : (n : ℕ) → n ≤ n
not_less n = omega arith

pub found : IsLookup (plain Shared) 0 (asked next) 1 (stored ∷ []) (Serve 0 (encoded (codes "age") age_line))
unfolding pieces push directive_in is_quoted_text is_token_byte octets_from
found =
    let candidate : IsCandidate (asked next) stored = record { method = inl (refl, inl refl); fields = All-nil _ } in
    inl (
    record {
      place = 0;
      found = record {
        selected = record {
          response = stored;
          at = refl;
          is = (
            candidate,
            inr (λ k other at may varies. absurd (omega (arith, subst IsVarying (only k other at).1 varies))),
          );
          newest = λ k other at is. subst (λ (x : StoredResponse). made_at x ≤ made_at stored)
              (sym (only k other at).1) (not_less _);
          last = λ k other at is less. let first = (only k other at).0 in absurd (omega (arith, first, less));
        };
        lifetime = 99_999_999_999;
        fresh_for = inl (inl (inr (refl, refl)));
        decided = (((refl, refl), (tt, tt)), young);
      };
      shown = refl;
      age = refl;
    }
    )

-- ---- the chain

abbrev server : Server
server = record {
  resource = λ time. gone;
  fits = λ time. record {
    takes = All-cons TakesFew _ [] (λ name. omega arith) (All-nil TakesFew);
    parts = All-nil HasFewParts;
  };
  own = λ time status. before stored_lines;
  content = λ time status sent. codes "gone";
  frames = true;
}

abbrev origin : Origin
origin = behind (λ host target. server) (λ hops time. false) []

none : (other : Reason) → Before other reasons.Gone → applies 0 gone next other ≡ false
unfolding rule_for is_reg_name
none other before = grind arith

said : IsSaid server 0 next (replies (before stored_lines))
said = record {
  answer = record { reason = reasons.Gone; status = Some 410; sends = sends.Nothing; fields = vec [] (omega arith) };
  is = record {
    first = record { is = refl; none_before = none };
    own = [];
    gives = record { has_status = refl; sends = refl; has_fields = refl };
    shared = [];
    is_shared = refl;
    fields = refl;
  };
  status = refl;
  content = refl;
  fields = λ name carried. refl;
}

sends_it : IsSent server 0 next (replies (before stored_lines))
unfolding said
sends_it = record { said = said; closes = false; connection = refl; framed = λ known. (Unstated, (refl, refl)) }

came : HasComeFrom caching.clock origin per_second (codes "/") next stored
came = record {
  sent = 0;
  received = 0;
  reply = replies (before stored_lines);
  answered = (0, omega arith, omega arith, sends_it);
  noted = assumption;
  set_before = omega arith;
  after = omega arith;
  past = omega arith;
}

from_store : IsFromStore caching origin (λ time. false) per_second per_second (codes "/") next served
from_store = record {
  time = per_second;
  after = omega arith;
  past = omega arith;
  contents = contents;
  lookup = Serve 0 (encoded (codes "age") age_line);
  found = record {
    acts = Takes (codes "/") next stored Complete ∷ [];
    before = contents;
    has = ([], refl, (plain_request, came, inr (inl (stored, is_to_store, stored_as, inserted))));
    sought = record { plain = plain_request; looked = refl; answer = found };
  };
  number = 0;
  age = (codes "age", age_line ∷ []);
  stored = stored;
  at = refl;
  serves = inl (refl, refl);
  status = refl;
  content = refl;
  fields = λ name. each (λ (name : List ℕ). name ≢ codes "age" → before served_lines name ≡ before stored_lines name)
      (codes "cache-control" ∷ codes "date" ∷ codes "age" ∷ []) name
      ((λ other. refl), ((λ other. refl), ((λ other. absurd (other refl)), tt)))
      (λ apart other. rw (apart.0, apart.1.0, apart.1.1.0) refl);
  has_age = refl;
}

pub instance : IsInstance
instance = record {
  server = server;
  gateway = gateway;
  caching = caching;
  request = request;
  reply = reply;
  given = inl (
      record {
        behind = served;
        passed = record {
          next = next;
          there = there;
          sent = per_second;
          after = omega arith;
          came = per_second;
          past = omega arith;
          answered = inr (inl from_store);
        };
        back = back;
      }
      );
  age = subst (λ (n : ℕ). 1 ≤ n) (sym (age_of-decimal old)) (omega arith);
  without_age = λ time status. refl;
  content = refl;
  status = refl;
}
