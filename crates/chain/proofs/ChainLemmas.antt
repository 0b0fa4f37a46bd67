-- What a client receives through gateways and caches is what the resource says.
use Rattle.std.proofs.Common.{◌≡◌, ◌≢◌, ◌⊎◌, ◌↔◌, ℕ, ◌+◌, ◌≤◌, Bool, true, false, List, [], ◌∷◌, ◌++◌, Some, None, refl}
use Rattle.std.proofs.Common.{◌∙◌, ap, append_assoc, subst, sym, inl, inr, arith, option_map, Option}
use Rattle.std.{proofs.lemmas.{Bool.{cases_Bool, cond_both}, Slice.Eq.bytes_eq-Decides}, specs.Prelude.{All, bytes_eq}}
use Rattle.{std.specs.{Prelude.codes, List.list_any}, http_header.specs.Token.lowercase, headers.specs.Date.fixdate}
use Rattle.headers.specs.{LineMap.{fields_of, set_all}, Lines.Line, Typed.HasLine}
use Rattle.{decide_preconditions.specs.Preconditions.IsGetOrHead, cache_policy.specs.Fields.{age_of, age_value}}
use Rattle.{cache_policy.specs.Requests.AllowsMethod, chain.specs.Caches.{Caching, HasComeFrom, IsFromStore, IsPlain}}
use Rattle.chain.specs.{Caches.{Origin, Reply, second_of, unless_head}, Chains.{Counts, Hop, Hop.{Forwards, Stores}}}
use Rattle.chain.specs.Chains.{IsBlank, IsForwardedBack, IsOwn, IsSentBack, IsTold, behind, caches, meant}
use Rattle.chain.specs.{Ways.{named_host, sent_directly}, Servers.{IsCarried, IsSaid, SaysCloseAtMost, Site, sent_of}}
use Rattle.chain.proofs.{ConnectionLemmas.crosses_if, ServerLemmas.{same_sent, says_close_at_most}}
use Rattle.chain.proofs.StoreLemmas.{StoreLaws, age_is, alike_first, allowed_method, asked_first, come, counts, from}
use Rattle.chain.proofs.StoreLemmas.{good_at, once_more, with_method, lacks, plain_first, quiet, stored_as, suits}
use Rattle.chain.proofs.{SuitLemmas.{MembersSelect, VaryIsSound, suited}, WayLemmas.{IsRead, ReadsNoMore, alike}}
use Rattle.chain.proofs.WayLemmas.{alike_by, apart, choose_alike, choose_by, choose_direct, crosses, differs, direct}
use Rattle.{chain.proofs.WayLemmas.{no_options, same_lines}, rfc_fields.specs.Members.field_members}
use Rattle.gateway_messages.specs.{Forwarding.{IsHopByHop, own_names, replaced}, Spellings.has_mark}
use Rattle.gateway_messages.specs.declared.{gateway.Gateway.Gateway, protocol.Protocol.TheVariants.Http11}
use Rattle.gateway_messages.specs.{Responses.date_unless, HopByHop.{connection_options, is_hop_by_hop, is_known}}
use Rattle.{gateway_messages.proofs.SpellingLemmas.well_spelt, decide_resource.specs.Answers.IsAnswer}
use Rattle.decide_resource.specs.{Requests.{Request, get_of, head_of}, Vary.{AreAlike, ChooseAlike}}
use Rattle.decide_resource.specs.declared.{answer.Answer.Answer, resource.Resource.Resource}
use Rattle.decide_resource.proofs.ExistenceLemmas.{some_answer}

-- ---- carried fields

carried : (name : List ℕ) → is_known true name ≡ false → list_any (bytes_eq name) own_names ≡ false
    → has_mark name ≡ false → name ≢ codes "age" → lowercase name ≢ codes "close" → IsCarried name
carried name end_to_end not_own unmarked not_age not_close = assumption (differs name own_names not_own)

vary_carried : IsCarried (codes "vary")
vary_carried = carried (codes "vary") refl refl refl (λ e. absurd (cc e)) (λ e. absurd (cc e))

coding_not_carried : (name : List ℕ) → IsCarried name → name ≢ codes "transfer-encoding"
coding_not_carried name h e = h.not_own 5 [] (omega arith) (sym e)

date_not_carried : (name : List ℕ) → IsCarried name → name ≢ codes "date"
date_not_carried name h e = h.not_own 2 [] (omega arith) (sym e)

nothing : (method : List ℕ) → unless_head method [] ≡ []
nothing method =
    cond_both (bytes_eq method (codes "HEAD")) [] [] (λ (content : List ℕ). content ≡ []) (λ e. refl) (λ e. refl)

-- ---- one request in place of another

-- an answer to the one is an answer to the other, and both name one host and direct caches alike
record Stands (r s : Request) : Type 0 where
  answers : (present : ℕ) (resource : Resource) (answer : Answer)
      → IsAnswer present resource r answer ↔ IsAnswer present resource s answer
  method : r.method ≡ s.method
  host : named_host r ≡ named_host s
  directs : r.fields (codes "cache-control") ≡ s.fields (codes "cache-control")

stays : (r : Request) → Stands r r
stays r =
    record { answers = λ present resource answer. ((λ h. h), (λ h. h)); method = refl; host = refl; directs = refl }

named_alike : (r s : Request) → AreAlike r s → named_host r ≡ named_host s
named_alike r s h = ap (λ (authority : Option Line). replaced authority (r.fields (codes "host"))) h.authority
    ∙ ap (λ (lines : List Line). replaced s.authority lines) h.host

turned : {r s : Request} → Stands r s → Stands s r
turned h = grind arith

-- a reply as it came, but for the fields of one connection and those that gateways write
record Carries (before reply : Reply) : Type 0 where
  status : reply.status ≡ before.status
  content : reply.content ≡ before.content
  fields : (name : List ℕ) → IsCarried name → reply.fields name ≡ before.fields name
  date : HasLine (before.fields (codes "date")) → reply.fields (codes "date") ≡ before.fields (codes "date")
  age : age_value before.fields ≡ age_value reply.fields
  connection : SaysCloseAtMost reply.fields

itself : (reply : Reply) → SaysCloseAtMost reply.fields → Carries reply reply
itself reply connection = assumption

-- hops before others have no fewer caches
more : (front hops : List Hop) → caches hops ≤ caches (front ++ hops)
more [] hops = omega arith
more (Forwards gateway ∷ front) hops = more front hops
more (Stores caching ∷ front) hops =
    let rest : caches hops ≤ caches (front ++ hops) = more front hops in omega (arith, rest)

shorter : (seconds short other time now : ℕ) → short ≤ other → Counts seconds short time now
    → Counts seconds other time now
shorter seconds short other time now less counts = grind arith

-- what is told behind some hops of the one reply is told before them of another that carries it
told_by : {site : Site} {silent : List Hop → ℕ → Bool} {hops : List Hop} {sent came : ℕ} {target : List ℕ}
    {r s : Request} {before reply : Reply} → (front : List Hop) (start now : ℕ) → start ≤ sent → came ≤ now
    → Stands r s → IsTold site silent hops sent came target r before → Carries before reply
    → IsTold site silent (front ++ hops) start now target s reply
told_by {site = site} {hops = hops} {sent = sent} {came = came} {target = target} {r = r} {s = s} {before = before}
    front start now early late h t k =
    let said : IsSaid (site (named_host s) target) t.time r before =
    subst (λ (lines : List Line). IsSaid (site lines target) t.time r before) h.host t.said in
    record {
      time = t.time;
      said = record {
        answer = said.answer;
        is = (h.answers (second_of t.time) ((site (named_host s) target).resource t.time) said.answer).0 said.is;
        status = said.status ∙ ap (λ (n : ℕ). Some n) (sym k.status);
        content = rw (sym h.method, k.status) (k.content ∙ said.content);
        fields = λ name c. rw k.status (k.fields name c ∙ said.fields name c);
      };
      left = t.left;
      since = t.since;
      after = omega (arith, early, t.after);
      past = omega (arith, late, t.past);
      aged = subst (λ (n : ℕ). Counts n (caches (front ++ hops)) t.time t.left) k.age
          (shorter _ _ _ _ _ (more front hops) t.aged);
      good = elim t.good [
        | inl e ↦ inl e
        | inr g ↦
            inr (
            record {
              caching = g.caching;
              nearer = front ++ g.nearer;
              further = g.further;
              on_the_way = ap (λ (hops : List Hop). front ++ hops) g.on_the_way
                  ∙ sym (append_assoc front g.nearer (Stores g.caching ∷ g.further));
              asked = g.asked;
              method = g.method ∙ h.method;
              directs = g.directs ∙ h.directs;
              arrived = g.arrived;
              after = omega (arith, early, g.after);
              stored = g.stored;
              status = k.status ∙ g.status;
              same = λ name c. k.fields name c ∙ g.same name c;
              date = λ has. k.date (subst HasLine (sym (g.date has)) has) ∙ g.date has;
              found = g.found;
            }
            )
      ];
      connection = k.connection;
    }

told_as : {site : Site} {silent : List Hop → ℕ → Bool} {hops : List Hop} {start now : ℕ} {target : List ℕ}
    {r s : Request} {reply : Reply} → Stands r s → IsTold site silent hops start now target r reply
    → IsTold site silent hops start now target s reply
told_as {start = start} {now = now} {reply = reply} h t =
    told_by [] start now (omega arith) (omega arith) h t (itself reply t.connection)

module _ (reads : ReadsNoMore) where
  same_if : (r s : Request) → AreAlike r s → ChooseAlike r.fields s.fields
      → r.fields (codes "cache-control") ≡ s.fields (codes "cache-control") → Stands r s
  same_if r s alike choose line = record {
    answers = λ present resource answer. reads present resource r s answer alike choose;
    method = alike.method;
    host = named_alike r s alike;
    directs = line;
  }

  -- a request without connection options is as it is meant
  as_meant : (request : Request) → request.protocol ≡ Http11 → request.authority ≡ None
      → connection_options request.fields ≡ [] → (hops : List Hop) → Stands request (meant hops request)
  as_meant request modern origin none [] = stays _
  as_meant request modern origin none (Stores caching ∷ hops) = as_meant request modern origin none hops
  as_meant request modern origin none (Forwards gateway ∷ hops) = same_if request (sent_directly gateway request)
      (direct gateway request modern origin none) (choose_direct gateway request modern origin none)
      (crosses gateway request modern origin none (codes "cache-control") (refl, refl, refl, refl, refl, refl))

  plain_meant : {target : List ℕ} (request : Request) → IsPlain target request → (hops : List Hop)
      → Stands request (meant hops request)
  plain_meant request h = as_meant request h.read.protocol h.read.authority
      (ap (λ (lines : List Line). field_members true lines) (h.without 0 [] (omega arith)))

-- ---- a gateway

-- a Date that there is stays
same_date : (date : ℕ) (lines : List Line) → HasLine lines
    → replaced (option_map fixdate (date_unless date lines)) lines ≡ lines
same_date date [] has = absurd (omega arith)
same_date date (line ∷ lines) has = refl

module _ {gateway : Gateway} {behind reply : Reply} (f : IsSentBack gateway behind reply) where
  status_behind : reply.status ≡ behind.status
  status_behind = f.status ∙ f.received.status

  passes : SaysCloseAtMost behind.fields → (name : List ℕ) → is_known true name ≡ false → lowercase name ≢ codes "close"
      → has_mark name ≡ false → All (λ own. own ≢ name) own_names → reply.fields name ≡ behind.fields name
  passes at_most name end_to_end not_close unmarked not_own =
      let crossing = crosses_if gateway.consumes_credentials f.response.fields
      (at_most.0, f.received.fields (codes "connection") ∙ at_most.1) name end_to_end not_close in
      f.fields name
      ∙ f.forwarded.fields.end_to_end name crossing (well_spelt gateway name unmarked) not_own
      ∙ f.received.fields name

  -- fields of one connection end here, those that connection options name too
  pub ends : (name : List ℕ) → IsHopByHop gateway behind.fields name → name ≢ codes "transfer-encoding"
      → reply.fields name ≡ []
  ends name hop other =
      let same : connection_options behind.fields ≡ connection_options f.response.fields
      = ap (λ (lines : List Line). field_members true lines) (sym (f.received.fields (codes "connection"))) in
      f.fields name ∙ f.forwarded.fields.hop_by_hop name (rw same at hop) other

  carries : SaysCloseAtMost behind.fields → Carries behind reply
  carries at_most = record {
    status = status_behind;
    content = f.content;
    fields = λ name c. passes at_most name c.end_to_end c.not_close c.unmarked c.not_own;
    date = λ has. f.fields (codes "date") ∙ f.forwarded.fields.date
        ∙ same_date f.date _ (subst HasLine (sym (f.received.fields (codes "date"))) has)
        ∙ f.received.fields (codes "date");
    age = ap age_of
        (sym (passes at_most (codes "age") refl (λ e. absurd (cc e)) refl (differs (codes "age") own_names refl)));
    connection = (
      false,
      f.fields (codes "connection")
          ∙ f.forwarded.fields.hop_by_hop (codes "connection") refl (apart (codes "connection") refl),
    );
  }

  -- a carried field that isn't behind the gateway isn't before it
  lacks_behind : (name : List ℕ) → IsCarried name → behind.fields name ≡ [] → reply.fields name ≡ []
  lacks_behind name c none = f.fields name ∙ elim (
      cases_Bool (is_hop_by_hop gateway.consumes_credentials (connection_options f.response.fields) name)
      ) [
        | inl hop ↦ f.forwarded.fields.hop_by_hop name hop (coding_not_carried name c)
        | inr crosses ↦
            f.forwarded.fields.end_to_end name crosses (well_spelt gateway name c.unmarked) c.not_own
            ∙ f.received.fields name ∙ none
      ]

  blank_behind : IsBlank behind → IsBlank reply
  blank_behind b = record { content = f.content ∙ b.content; fields = λ name c. lacks_behind name c (b.fields name c) }

through : ReadsNoMore → {gateway : Gateway} {origin : Origin} {start now : ℕ} {target : List ℕ} {request : Request}
    {reply : Reply} {site : Site} {silent : List Hop → ℕ → Bool} {hops : List Hop}
    → (f : IsForwardedBack gateway origin start now target request reply)
    → IsTold site silent hops f.passed.sent f.passed.came target f.passed.next f.behind
    → IsTold site silent (Forwards gateway ∷ hops) start now target (sent_directly gateway request) reply
through reads {gateway = gateway} {start = start} {now = now} {request = request} f t =
    let p = f.passed in
    let same = same_if reads (sent_directly gateway request) p.next (alike p.there) (choose_alike p.there)
    (same_lines p.there (codes "cache-control") (refl, refl, refl, refl, refl, refl)) in
    told_by (Forwards gateway ∷ []) start now p.after p.past (turned same) t (carries f.back t.connection)

-- ---- a cache

-- what a law of a resource says: HEAD is answered as GET
abbrev pub HeadIsAsGet : Type 0
HeadIsAsGet = (present : ℕ) (resource : Resource) (request : Request) (answer : Answer)
    → IsAnswer present resource (get_of request) answer → IsAnswer present resource (head_of request) answer

-- ---- a method in place of another

module _ (request : Request) where
  as_head : request.method ≡ codes "HEAD" → AreAlike (head_of request) request
  as_head is_head = alike_by (head_of request) request (λ name is. refl) refl (sym is_head) refl refl refl refl

  as_it_is : (method : List ℕ) → method ≡ request.method → AreAlike (with_method method request) request
  as_it_is method same = alike_by (with_method method request) request (λ name is. refl) refl same refl refl refl refl

  choose_it : ChooseAlike request.fields request.fields
  choose_it = choose_by request request (λ name is. refl)

  module _ (none : request.fields (codes "range") ≡ []) where
    get_fields : (name : List ℕ) → IsRead name → request.fields name ≡ (get_of request).fields name
    get_fields name is = cond_both (bytes_eq (codes "range") name) [] (request.fields name)
        (λ (lines : List Line). request.fields name ≡ lines)
        (λ e. subst (λ (n : List ℕ). request.fields n ≡ []) ((bytes_eq-Decides (codes "range") name).0 e) none)
        (λ e. refl)

    as_get : (method : List ℕ) → method ≡ codes "GET" → AreAlike (with_method method request) (get_of request)
    as_get method is_get =
        alike_by (with_method method request) (get_of request) get_fields refl is_get refl refl refl refl

    choose_get : ChooseAlike request.fields (get_of request).fields
    choose_get = choose_by request (get_of request) get_fields

-- an answer to the request with a method that may answer it is an answer to the request
allowed_answer : ReadsNoMore → HeadIsAsGet → (target : List ℕ) (request : Request) → IsPlain target request
    → (method : List ℕ) → AllowsMethod method request.method → (present : ℕ) (resource : Resource) (answer : Answer)
    → IsAnswer present resource (with_method method request) answer → IsAnswer present resource request answer
allowed_answer reads heads target request plain method (inl h) present resource answer k = by h.1
  where
    by : IsGetOrHead request.method → IsAnswer present resource request answer
    by (inl get) = (reads present resource (with_method method request) request answer
        (as_it_is request method (h.0 ∙ sym get)) (choose_it request)).0 k
    by (inr head) =
        let none = plain.without 8 [] (omega arith) in
        let gets = (reads present resource (with_method method request) (get_of request) answer
        (as_get request none method h.0) (choose_get request none)).0 k in
        (reads present resource (head_of request) request answer (as_head request head) (choose_it request)).0
        (heads present resource request answer gets)
allowed_answer reads heads target request plain method (inr h) present resource answer k =
    (reads present resource (with_method method request) request answer
    (as_it_is request method (h.0 ∙ sym h.1)) (choose_it request)).0 k

module _ (reads : ReadsNoMore) (heads : HeadIsAsGet) (sound : VaryIsSound) (members : MembersSelect)
    (law : StoreLaws) where
  module _ {caching : Caching} {origin : Origin} {silent : ℕ → Bool} {start now : ℕ} {target : List ℕ}
      {request : Request} {reply : Reply} (f : IsFromStore caching origin silent start now target request reply) where
    abbrev first : Request
    first = (come law f).request

    abbrev came : HasComeFrom caching.clock origin f.time target first (come law f).came
    came = from law f

    status_is : reply.status ≡ came.reply.status
    status_is = f.status ∙ (come law f).kept.status ∙ came.noted.status

  module _ (site : Site) (silent : List Hop → ℕ → Bool) (hops : List Hop) {caching : Caching} {start now : ℕ}
      {target : List ℕ} {request : Request} {reply : Reply}
      (f : IsFromStore caching (behind site silent hops) (silent hops) start now target request reply) where
    own_stored : IsOwn site silent hops (came f).sent (came f).received target (first f) (came f).reply
        → IsOwn site silent (Stores caching ∷ hops) start now target request reply
    own_stored own = record {
      reason = inr (inl (
        f,
        record {
          sent = (came f).sent;
          came = (came f).received;
          past = omega (arith, (came f).past, f.past);
          first = first f;
          plain = plain_first law f;
          given_reply = (came f).reply;
          given = own.reason;
          status = (status_is f);
        },
      ));
      blank = record {
        content = once_more law f [] (own.blank.content ∙ sym (nothing (first f).method)) ∙ nothing request.method;
        fields = λ name c. lacks law f name c.not_age (date_not_carried _ c) (own.blank.fields name c);
      };
    }

    from_store : IsTold site silent hops (came f).sent (came f).received target (first f) (came f).reply
        → IsTold site silent (Stores caching ∷ hops) start now target request reply
    from_store t =
        let server = site (named_host (first f)) target in
        let said = t.said in
        let at_most = t.connection in
        let stored = λ (name : List ℕ) (c : IsCarried name). stored_as law f at_most name
        c.end_to_end c.not_close (date_not_carried _ c) in
        let varies = stored (codes "vary") vary_carried ∙ said.fields (codes "vary") vary_carried in
        let asked_now = asked_first law f in
        let now_said = some_answer (second_of t.time) (server.resource t.time) asked_now (server.fits t.time) in
        let both_alike = alike_first law f in
        let same = suited sound members (second_of t.time) (server.resource t.time) (first f) asked_now said.answer
        now_said.0 (server.own t.time (came f).reply.status) said.is now_said.1 both_alike (suits law f
        (set_all (server.own t.time (came f).reply.status) (fields_of said.answer.fields.items)) varies) in
        let aged = counts law f at_most t.time t.left (caches hops) t.since t.after t.past t.aged in
        let told : IsSaid server t.time request reply = record {
          answer = now_said.0;
          is = allowed_answer reads heads target request f.found.sought.plain (first f).method (allowed_method law f)
              (second_of t.time) (server.resource t.time) now_said.0 now_said.1;
          status = sym same.status ∙ said.status ∙ ap (λ (n : ℕ). Some n) (sym (status_is f));
          content = once_more law f (server.content t.time (came f).reply.status (sent_of said.answer.sends))
              said.content ∙ ap
              (λ (sent : _). unless_head request.method (server.content t.time (came f).reply.status sent))
              (same_sent _ _ same.sends) ∙ ap
              (λ (n : ℕ). unless_head request.method (server.content t.time n (sent_of now_said.0.sends)))
              (sym (status_is f));
          fields = λ name c. f.fields name c.not_age ∙ stored name c ∙ said.fields name c
              ∙ ap (λ fields. set_all (server.own t.time (came f).reply.status) fields name) same.fields
              ∙ ap (λ (n : ℕ). set_all (server.own t.time n) (fields_of now_said.0.fields.items) name)
              (sym (status_is f));
        } in
        record {
          time = t.time;
          said = subst (λ (lines : List Line). IsSaid (site lines target) t.time request reply)
              (named_alike (first f) asked_now both_alike) told;
          left = f.time;
          since = omega (arith, t.since, t.past, (came f).past);
          after = f.after;
          past = f.past;
          aged = subst (λ (n : ℕ). Counts n (caches hops + 1) t.time f.time) (sym (age_is law f)) aged;
          good = inr (
              record {
                caching = caching;
                nearer = [];
                further = hops;
                on_the_way = refl;
                asked = request;
                method = refl;
                directs = refl;
                arrived = start;
                after = omega arith;
                stored = f.stored;
                status = f.status;
                same = λ name c. f.fields name c.not_age;
                date = λ has. f.fields (codes "date") (λ e. absurd (cc e));
                found = good_at law f t.time t.left (caches hops + 1) t.since t.past aged;
              }
              );
          connection = quiet law f;
        }

  -- ---- a chain

  module _ (site : Site) (silent : List Hop → ℕ → Bool) where
    pub tells : (hops : List Hop) (start now : ℕ) (target : List ℕ) (request : Request) (reply : Reply)
        → behind site silent hops start now target request reply
        → IsTold site silent hops start now target (meant hops request) reply
        ⊎ IsOwn site silent hops start now target request reply
    tells [] start now target request reply h = inl (
        record {
          time = h.0;
          said = h.3.said;
          left = h.0;
          since = omega arith;
          after = h.1;
          past = h.2;
          aged = inr (omega arith);
          good = inl refl;
          connection = says_close_at_most _ _ _ _ h.3;
        }
        )
    tells (Forwards gateway ∷ hops) start now target request reply (inr h) =
        inr (record { reason = inr h.0; blank = h.1 })
    tells (Forwards gateway ∷ hops) start now target request reply (inl f) =
        let p = f.passed in
        elim (tells hops p.sent p.came target p.next f.behind p.answered) [
          | inl t ↦
              let passed = p.there.passed in
              let same = as_meant reads p.next passed.protocol passed.authority (no_options p.there) hops in
              inl (through reads f (told_as (turned same) t))
          | inr k ↦ inr (record { reason = inl (f, k.reason); blank = blank_behind f.back k.blank })
        ]
    tells (Stores caching ∷ hops) start now target request reply (inl h) =
        elim (tells hops start now target request reply h) [
          | inl t ↦
              inl (told_by (Stores caching ∷ []) start now (omega arith) (omega arith) (stays _) t
              (itself reply t.connection))
          | inr k ↦ inr (record { reason = inl k.reason; blank = k.blank })
        ]
    tells (Stores caching ∷ hops) start now target request reply (inr (inr h)) =
        inr (record { reason = inr (inr h.0); blank = h.1 })
    tells (Stores caching ∷ hops) start now target request reply (inr (inl f)) =
        elim (tells hops (came f).sent (came f).received target (first f) (came f).reply (came f).answered) [
          | inl t ↦
              let meant_first = plain_meant reads (first f) (plain_first law f) hops in
              let meant_this = plain_meant reads request f.found.sought.plain hops in
              inl (told_as meant_this (from_store site silent hops f (told_as (turned meant_first) t)))
          | inr own ↦ inr (own_stored site silent hops f own)
        ]
