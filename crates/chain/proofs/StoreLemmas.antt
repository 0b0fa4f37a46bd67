-- What a cache serves from its store came from those behind it.
use Rattle.std.proofs.Common.{◌≡◌, ◌≢◌, ◌⊎◌, ℕ, ◌+◌, ◌-◌, ◌*◌, ◌≤◌, Bool, true, false, List, [], ◌∷◌, ◌++◌, refl, ◌∙◌}
use Rattle.std.proofs.{Common.{ap, arith, inl, inr, subst, sym}, lemmas.Bool.{and_parts, Decides.nat_tests}}
use Rattle.std.{proofs.lemmas.List.Elements.All-weaker, specs.{List.list_all, Prelude.{◌||◌, ◌==◌, not, codes, max}}}
use Rattle.{std.specs.Prelude.unwrap_or, http_header.specs.Token.lowercase, headers.specs.LineMap.{Field, LineMap}}
use Rattle.headers.specs.{LineMap.lines_at, Lines.{Line, only_line}, Text.is_text, Typed.HasLine}
use Rattle.cache_store.specs.{Changes.{IsStoredAs, IsToStore}, Contents.{Contents, responses_at}}
use Rattle.cache_store.specs.{Served.{IsRightlyServed, Serves}, declared.{limits.Limits.Limits, lookup.Lookup.Lookup}}
use Rattle.cache_store.specs.{declared.lookup.Lookup.TheVariants.ValidateOrServe, Numbers.numbered, History.HasUnder}
use Rattle.cache_store.specs.{History.{History, IsJustified, Run}, Lookups.{IsAnswer, IsFreshFor, age_of_stored}}
use Rattle.cache_store.{specs.Lookups.freshness_of, proofs.HistoryLemmas.HasUnder-responses_at}
use Rattle.{cache_store.proofs.NumberLemmas.Has-numbered, cache_policy.specs.Age.{age_at, apparent_age}}
use Rattle.cache_policy.specs.{Fields.{age_of, age_value, capped}, Requests.AllowsMethod}
use Rattle.decide_preconditions.specs.Preconditions.{IsGetOrHead}
use Rattle.cache_policy.specs.{Requests.Request as Asked, Storing.IsShareable, Targets.governing}
use Rattle.cache_policy.specs.declared.{Governing.Governing, Kind.{Kind, TheVariants.{Private, Shared}}}
use Rattle.cache_policy.specs.{Varying.{Agree, Suits}, Policies.{AnswersUnder, Policy, tells}}
use Rattle.cache_rules.{proofs.StoringLemmas.governed_alike, specs.{Selection.IsCandidate, Stored.fields_of_stored}}
use Rattle.cache_rules.specs.{Stored.times_of, declared.storing.Reception.Reception}
use Rattle.{cache_rules.specs.declared.stored.StoredResponse.StoredResponse, chain.specs.Caches.{Act, Act.Looks}}
use Rattle.chain.specs.Caches.{Act.{Takes, Drops}, Caching, Fails, HasAfter, HasComeFrom, IsFromStore, IsPlain, Origin}
use Rattle.chain.specs.Caches.{Reply, ServesOnError, asked, calls_of, key_of, per_second, second_of, shown, unless_head}
use Rattle.chain.specs.{Chains.{Counts, FindsGood, IsGood, IsGoodOnError}, Servers.SaysCloseAtMost}
use Rattle.chain.proofs.{AgeLemmas.age_of-decimal, ConnectionLemmas.crosses_if}
use Rattle.rfc_fields.specs.{Members.field_members, Scan.{Member, Member.{Whole, Malformed}}}
use Rattle.gateway_messages.specs.HopByHop.{connection_options, is_hop_by_hop, is_known, is_named}
use Rattle.decide_resource.specs.{Requests.Request, Vary.AreAlike}
use Rattle.cache_policy.specs.declared.decision.Decision.TheVariants as decisions

-- what a law of a store says
abbrev pub ServesWhatIsJustified : Type 0
ServesWhatIsJustified =
    (policy : Policy) (limits : Limits) (calls : History) (contents : Contents) → Run policy limits calls contents
    → (target : List ℕ) (most : ℕ) (request : Asked) (now : ℕ) (lookup : Lookup)
    → IsAnswer policy most request now (responses_at target contents) lookup → (number : ℕ) (age : Field)
    → Serves lookup number age
    → IsRightlyServed policy most target calls request now (responses_at target contents) number age

abbrev pub JustifiesWhatIsStored : Type 0
JustifiesWhatIsStored =
    (policy : Policy) (limits : Limits) (calls : History) (contents : Contents) → Run policy limits calls contents
    → (target : List ℕ) (stored : StoredResponse) → HasUnder contents target stored
    → IsJustified policy target calls stored

abbrev pub StoreLaws : Type 0
StoreLaws = ServesWhatIsJustified × JustifiesWhatIsStored

-- ---- keys

no_slash : (b : ℕ) → not (b == 47) ≡ true → b ≢ 47
no_slash b e = grind (arith, nat_tests, e)

-- a host ends where the first slash is
one_host : (h k p q : List ℕ) → list_all (λ b. not (b == 47)) h ≡ true → list_all (λ b. not (b == 47)) k ≡ true
    → h ++ (47 ∷ p) ≡ k ++ (47 ∷ q) → (h ≡ k) × (p ≡ q)
one_host [] [] p q x y e = (refl, cc e)
one_host [] (c ∷ k) p q x y e =
    let head : 47 ≡ c = cc e in
    absurd (no_slash c (and_parts (not (c == 47)) (list_all (λ b. not (b == 47)) k) y).0 (sym head))
one_host (b ∷ h) [] p q x y e =
    let head : b ≡ 47 = cc e in
    absurd (no_slash b (and_parts (not (b == 47)) (list_all (λ b. not (b == 47)) h) x).0 head)
one_host (b ∷ h) (c ∷ k) p q x y e =
    let rest = one_host h k p q (and_parts (not (b == 47)) (list_all (λ b. not (b == 47)) h) x).1
    (and_parts (not (c == 47)) (list_all (λ b. not (b == 47)) k) y).1 (cc e) in
    let head : b ≡ c = cc e in (cc (head, rest.0), rest.1)

-- what one key is for
pub record AreOne (t u : List ℕ) (r s : Request) : Type 0 where
  pub target : t ≡ u
  pub host : r.fields (codes "host") ≡ s.fields (codes "host")

pub one_key : (t u : List ℕ) (r s : Request) → IsPlain t r → IsPlain u s → key_of t r ≡ key_of u s → AreOne t u r s
one_key t u r s h k e =
    let named = λ (q : Request) (host : Line) (lines : q.fields (codes "host") ≡ host ∷ []) (target : List ℕ).
    ap (λ (ls : List Line). codes "http://" ++ (unwrap_or (only_line ls) [] ++ target)) lines in
    let whole : codes "http://" ++ (h.host ++ (47 ∷ h.path)) ≡ codes "http://" ++ (k.host ++ (47 ∷ k.path))
    = ap (λ (target : List ℕ). codes "http://" ++ (h.host ++ target)) (sym h.is_path)
    ∙ sym (named r h.host h.has_host t) ∙ e ∙ named s k.host k.has_host u
    ∙ ap (λ (target : List ℕ). codes "http://" ++ (k.host ++ target)) k.is_path in
    let rest : h.host ++ (47 ∷ h.path) ≡ k.host ++ (47 ∷ k.path) = cc whole in
    let one = one_host _ _ _ _ (and_parts (is_text h.host) (list_all (λ b. not (b == 47)) h.host) h.bare).1
    (and_parts (is_text k.host) (list_all (λ b. not (b == 47)) k.host) k.bare).1 rest in
    record {
      target = h.is_path ∙ ap (λ (path : List ℕ). 47 ∷ path) one.1 ∙ sym k.is_path;
      host = h.has_host ∙ ap (λ (host : Line). host ∷ []) one.0 ∙ sym k.has_host;
    }

-- ---- how it came

module _ (caching : Caching) (origin : Origin) (now : ℕ) where
  -- the acts of a cache are calls of its store
  runs : (acts : List Act) (contents : Contents) → HasAfter caching origin now acts contents
      → Run caching.policy caching.limits (calls_of acts) contents
  runs [] contents h = h
  runs (Looks target request ∷ acts) contents h = (h.0, runs acts h.0 h.1, h.2.1)
  runs (Takes target request came reception ∷ acts) contents h = (h.0, runs acts h.0 h.1, h.2.2)
  runs (Drops key ∷ acts) contents h = (h.0, runs acts h.0 h.1, h.2)

  -- a stored response came for a plain request with this key
  pub record HasCome (key : List ℕ) (stored : StoredResponse) : Type 0 where
    pub target : List ℕ
    pub request : Request
    pub plain : IsPlain target request
    pub came : StoredResponse
    pub reception : Reception
    pub from : HasComeFrom caching.clock origin now target request came
    pub same : key_of target request ≡ key
    pub allowed : IsToStore caching.policy came reception
    pub kept : IsStoredAs came stored

  has_come : (key : List ℕ) (stored : StoredResponse) (acts : List Act) (contents : Contents)
      → HasAfter caching origin now acts contents → IsJustified caching.policy key (calls_of acts) stored
      → HasCome key stored
  has_come key stored [] contents h j = absurd j
  has_come key stored (Looks target request ∷ acts) contents h j = has_come key stored acts h.0 h.1 j
  has_come key stored (Takes target request came reception ∷ acts) contents h (inl j) =
      has_come key stored acts h.0 h.1 j
  has_come key stored (Takes target request came reception ∷ acts) contents h (inr j) = record {
    target = target;
    request = request;
    plain = h.2.0;
    came = came;
    reception = reception;
    from = h.2.1;
    same = j.0;
    allowed = j.1;
    kept = j.2;
  }
  has_come key stored (Drops other ∷ acts) contents h j = has_come key stored acts h.0 h.1 j.1

-- ---- plain requests

-- a request with the method of another one
abbrev pub with_method : List ℕ → Request → Request
with_method method request = record {
  protocol = request.protocol;
  method = method;
  authority = request.authority;
  content = request.content;
  fields = request.fields;
  denied = request.denied;
}

no_put : (method : List ℕ) → method ≡ codes "PUT" → IsGetOrHead method → ⊥
no_put method put read = grind arith

pub plain_alike : (target : List ℕ) (r s : Request) → IsPlain target r → IsPlain target s
    → r.fields (codes "host") ≡ s.fields (codes "host") → AreAlike r (with_method r.method s)
plain_alike target r s h k host = record {
  protocol = h.read.protocol ∙ sym k.read.protocol;
  method = refl;
  authority = h.read.authority ∙ sym k.read.authority;
  host = host;
  expect = h.without 3 [] (omega arith) ∙ sym (k.without 3 [] (omega arith));
  content = h.read.content ∙ sym k.read.content;
  denied = h.read.admitted ∙ sym k.read.admitted;
  content_type = h.without 1 [] (omega arith) ∙ sym (k.without 1 [] (omega arith));
  content_encoding = h.without 2 [] (omega arith) ∙ sym (k.without 2 [] (omega arith));
  content_range = λ put. absurd (no_put r.method put h.read.method);
  asks = record {
    if_match = h.without 4 [] (omega arith) ∙ sym (k.without 4 [] (omega arith));
    if_none_match = h.without 5 [] (omega arith) ∙ sym (k.without 5 [] (omega arith));
    if_modified_since = h.without 6 [] (omega arith) ∙ sym (k.without 6 [] (omega arith));
    if_unmodified_since = h.without 7 [] (omega arith) ∙ sym (k.without 7 [] (omega arith));
    range = h.without 8 [] (omega arith) ∙ sym (k.without 8 [] (omega arith));
    if_range = h.without 9 [] (omega arith) ∙ sym (k.without 9 [] (omega arith));
  };
}

-- a stored response may answer its own method
own_method : (m n : List ℕ) → AllowsMethod m n → AllowsMethod m m
own_method m n (inl h) = inl (h.0, inl h.0)
own_method m n (inr h) = inr (h.0, h.0)

-- what a method leaves of a content, after the method of the stored response
once : (m n : List ℕ) → AllowsMethod m n → (content : List ℕ)
    → unless_head n (unless_head m content) ≡ unless_head n content
once m n allows content = grind arith

-- ---- what is served

-- what is known of a stored response that a cache serves at a time of its clock
pub record IsRight (policy : Policy) (most : ℕ) (key : List ℕ) (calls : History) (request : Request) (shown : ℕ)
    (failed : Type 0) (stored : StoredResponse) (age : Field) : Type 0 where
  pub justified : IsJustified policy key calls stored
  pub matches : IsCandidate (asked request) stored
  pub lifetime : ℕ
  pub fresh_for : IsFreshFor policy most stored lifetime
  pub good : IsGood policy request.fields (fields_of_stored stored) (freshness_of lifetime stored shown)
      ⊎ (IsGoodOnError policy request.fields (fields_of_stored stored) (freshness_of lifetime stored shown) × failed)
  pub aged : age ≡ age_of_stored stored shown

-- The seconds that a clock shows between two times are less than one too few.
elapsed : (a b gone : ℕ) → b ≡ a + gone
    → (second_of a ≤ second_of b) × (gone ≤ per_second * (second_of b - second_of a) + per_second)
elapsed a b gone e = (omega (arith, e), omega (arith, e))

-- The age of a stored response counts the time since it was said: that by which it was old when it came, and the time
-- since the request by the clock, but for one second.
module _ (given own requested received x y shows sent left came now time apparent short : ℕ) (same : own ≡ given)
    (requested_at : requested ≡ x) (received_at : received ≡ y) (waited : x ≤ y) (rested : y ≤ shows)
    (gone : now - sent ≤ per_second * (shows - x) + per_second) (since : time ≤ left) (after : sent ≤ left)
    (before : left ≤ came) (over : came ≤ now) where
  abbrev total : ℕ
  total = max apparent (own + (received - requested)) + (shows - received)

  least : given + (shows - x) ≤ total
  least = omega (arith, same, requested_at, received_at, waited, rested)

  grows : Counts given short time left → Counts (capped total) (short + 1) time now
  grows counts = grind arith

module _ (law : StoreLaws) {caching : Caching} {origin : Origin} {silent : ℕ → Bool} {start now : ℕ}
    {target : List ℕ} {request : Request} {reply : Reply}
    (f : IsFromStore caching origin silent start now target request reply) where
  abbrev key : List ℕ
  key = key_of target request

  -- all that the cache did, the lookup that serves the response included
  abbrev calls : History
  calls = calls_of (Looks target request ∷ f.found.acts)

  -- what its clock shows
  abbrev pub present : ℕ
  present = shown caching.clock f.time

  all_acts : HasAfter caching origin f.time (Looks target request ∷ f.found.acts) f.contents
  all_acts = (f.found.before, f.found.has, (f.found.sought.plain, f.found.sought.looked))

  run : Run caching.policy caching.limits calls f.contents
  run = runs caching origin f.time (Looks target request ∷ f.found.acts) f.contents all_acts

  abbrev Right : StoredResponse → Type 0
  Right stored = IsRight caching.policy caching.most key calls request present
      (Fails origin silent start f.time target request) stored f.age

  at_once : Serves f.lookup f.number f.age → Right f.stored
  at_once serves =
      let s = law.0 caching.policy caching.limits calls f.contents run key caching.most (asked request) present
      f.lookup f.found.sought.answer f.number f.age serves in
      let same : s.response ≡ f.stored = cc (sym s.at ∙ f.at) in
      subst Right same (
      record {
        justified = s.justified;
        matches = s.matches;
        lifetime = s.lifetime;
        fresh_for = s.fresh_for;
        good = inl s.good;
        aged = s.age;
      }
      )

  under : IsJustified caching.policy key calls f.stored
  under = law.1 caching.policy caching.limits calls f.contents run key f.stored
      (HasUnder-responses_at _ _ _ (Has-numbered _ _ _ f.at).0)

  on_error : (lookup : Lookup)
      → IsAnswer caching.policy caching.most (asked request) present (responses_at key f.contents) lookup
      → ServesOnError lookup f.number → Fails origin silent start f.time target request
      → f.age ≡ age_of_stored f.stored present → Right f.stored
  on_error (ValidateOrServe at fields) answer here failed aged =
      let found = answer.found in
      let selected = found.selected in
      let same : selected.response ≡ f.stored
      = cc (sym answer.shown ∙ ap (λ (n : ℕ). numbered n (responses_at key f.contents)) here ∙ f.at) in
      let decided : AnswersUnder caching.policy request.fields (fields_of_stored f.stored)
      (freshness_of found.lifetime f.stored present) decisions.RevalidateOrServe = rw same at found.decided in
      record {
        justified = under;
        matches = rw same at selected.is.0;
        lifetime = found.lifetime;
        fresh_for = rw same at found.fresh_for;
        good = inr (decided.2, failed);
        aged = aged;
      }
  on_error other answer here failed aged = absurd here

  pub right : Right f.stored
  right = grind (arith, at_once, on_error)

  pub is_candidate : IsCandidate (asked request) f.stored
  is_candidate = right.matches

  pub come : HasCome caching origin f.time key f.stored
  come = grind (arith, has_come, all_acts, right)

  -- it came for the same target and host
  pub one : AreOne come.target target come.request request
  one = one_key come.target target come.request request come.plain f.found.sought.plain come.same

  pub plain_first : IsPlain target come.request
  plain_first = subst (λ (t : List ℕ). IsPlain t come.request) one.target come.plain

  pub from : HasComeFrom caching.clock origin f.time target come.request come.came
  from = subst (λ (t : List ℕ). HasComeFrom caching.clock origin f.time t come.request come.came) one.target come.from

  -- the request with the method of the stored response
  abbrev pub asked_first : Request
  asked_first = with_method come.request.method request

  pub alike_first : AreAlike come.request asked_first
  alike_first = plain_alike target come.request request plain_first f.found.sought.plain one.host

  -- if at most the end of the connection was said of it, what isn't for one connection is stored as it came
  module _ (at_most : SaysCloseAtMost from.reply.fields) where
    pub stored_as : (name : List ℕ) → is_known true name ≡ false → lowercase name ≢ codes "close"
        → name ≢ codes "date" → fields_of_stored f.stored name ≡ from.reply.fields name
    stored_as name end_to_end not_close not_date =
        let crosses = crosses_if true (fields_of_stored come.came)
        (at_most.0, from.noted.fields (codes "connection") ∙ at_most.1) name end_to_end not_close in
        come.kept.fields.end_to_end name (λ hop. absurd (cc (crosses, hop))) not_date ∙ from.noted.fields name

  pub quiet : SaysCloseAtMost reply.fields
  quiet = grind (arith, come)

  pub allowed_method : AllowsMethod come.request.method request.method
  allowed_method = grind arith

  -- the request that it answered, as the cache stored it
  pub suits : (response : LineMap) → fields_of_stored f.stored (codes "vary") ≡ response (codes "vary")
      → Suits (asked come.request) (asked asked_first) response
  suits response varies =
      let stored_lines = λ (name : List ℕ).
      ap (λ m. lines_at m name) come.kept.request ∙ from.noted.asked_fields name in
      let each = agree stored_lines in
      record {
        method = own_method _ _ allowed_method;
        fields = rw varies at (All-weaker (Agree (lines_at f.stored.request) request.fields)
            (Agree come.request.fields request.fields) each
            (field_members true (fields_of_stored f.stored (codes "vary"))) is_candidate.fields);
      }
    where
      agree : ((name : List ℕ) → lines_at f.stored.request name ≡ come.request.fields name) → (member : Member)
          → Agree (lines_at f.stored.request) request.fields member → Agree come.request.fields request.fields member
      agree lines (Whole name) h = (
        h.0,
        h.1,
        rw (lines (lowercase name)) at h.2,
      )
      agree lines Malformed h = absurd h

  -- Age of the reply
  abbrev pub counted : ℕ
  counted = capped (age_at (times_of f.stored present) (fields_of_stored f.stored))

  pub age_is : age_value reply.fields ≡ counted
  age_is = grind (arith, right, age_of-decimal)

  -- it counts the time since the reply came, and its age by then
  pub counts : SaysCloseAtMost from.reply.fields → (time left short : ℕ) → time ≤ left → from.sent ≤ left
      → left ≤ from.received → Counts (age_value from.reply.fields) short time left
      → Counts counted (short + 1) time f.time
  counts at_most time left short past after before aged =
      let lines : age_value (fields_of_stored f.stored) ≡ age_value from.reply.fields
      = ap age_of (stored_as at_most (codes "age") refl (λ e. absurd (cc e)) (λ e. absurd (cc e))) in
      let clock = caching.clock in
      let over : from.sent ≤ f.time = omega (arith, from.after, from.past) in
      let then : clock.set ≤ from.received = omega (arith, from.set_before, from.after) in
      let waited = elapsed _ _ _ (clock.runs from.sent from.received from.set_before from.after) in
      let rested = elapsed _ _ _ (clock.runs from.received f.time then from.past) in
      let gone = elapsed _ _ _ (clock.runs from.sent f.time from.set_before over) in
      grows (age_value from.reply.fields) (age_value (fields_of_stored f.stored)) f.stored.requested f.stored.received
      (shown clock from.sent) (shown clock from.received) present from.sent left from.received f.time time
      (apparent_age (times_of f.stored present) (fields_of_stored f.stored)) short lines
      (come.kept.requested ∙ from.noted.requested_at) (come.kept.received ∙ from.noted.received_at) waited.0 rested.0
      gone.1 past after before from.past aged

  -- so the cache finds it good enough
  pub good_at : (time left short : ℕ) → time ≤ left → left ≤ from.received → Counts counted short time f.time
      → FindsGood caching origin silent short time start f.time target request f.stored
  good_at time left short past before aged = record {
    came = from.received;
    since = omega (arith, past, before);
    past = from.past;
    received = come.kept.received ∙ from.noted.received_at;
    freshness = freshness_of right.lifetime f.stored present;
    fresh_for = right.fresh_for;
    old = aged;
    good = right.good;
  }

  -- a field that didn't come isn't in the reply, but for those that a cache writes
  pub lacks : (name : List ℕ) → name ≢ codes "age" → name ≢ codes "date" → from.reply.fields name ≡ []
      → reply.fields name ≡ []
  lacks name not_age not_date none = grind arith

  -- ---- what a cache never gives away

  kept_control : fields_of_stored f.stored (codes "cache-control") ≡ from.reply.fields (codes "cache-control")
  kept_control = grind arith

  governed_as : governing caching.policy.targets reply.fields
      ≡ governing caching.policy.targets (fields_of_stored come.came)
  governed_as = governed_alike (fields_of_stored come.came) reply.fields (fields_of_stored come.came)
      (λ name hop age date. f.fields name age ∙ come.kept.fields.end_to_end name hop date) (
      f.fields (codes "cache-control") (λ e. absurd (cc e)) ∙ kept_control
      ∙ sym (from.noted.fields (codes "cache-control"))
      ) caching.policy.targets come.allowed.fair.targeted

  pub content_is : reply.content ≡ unless_head request.method from.reply.content
  content_is = grind arith

  -- of what a server says to the first method
  pub once_more : (content : List ℕ) → from.reply.content ≡ unless_head come.request.method content
      → reply.content ≡ unless_head request.method content
  once_more content said =
      content_is ∙ ap (λ (c : List ℕ). unless_head request.method c) said ∙ once _ _ allowed_method content

  pub shareable : IsShareable caching.policy.kind come.request.fields (tells caching.policy reply.fields)
  shareable = subst (λ (g : Governing). IsShareable caching.policy.kind come.request.fields g.directives)
      (sym governed_as) (by caching.policy.kind come.allowed.allowed.shareable)
    where
      by : (k : Kind) → IsShareable k (lines_at come.came.request) (tells caching.policy (fields_of_stored come.came))
          → IsShareable k come.request.fields (tells caching.policy (fields_of_stored come.came))
      by Private h = tt
      by Shared h =
          (h.0, λ present. h.1 (subst HasLine (sym (from.noted.asked_fields (codes "authorization"))) present))

  -- fields of one connection are stored by no cache
  pub stores_none : (name : List ℕ) → is_known true name ≡ true → reply.fields name ≡ []
  stores_none name known =
      let not_age : name ≢ codes "age" = λ e. absurd (cc (subst (λ (n : List ℕ). is_known true n ≡ true) e known)) in
      let not_date : name ≢ codes "date" = λ e. absurd (cc (subst (λ (n : List ℕ). is_known true n ≡ true) e known)) in
      let hop : is_hop_by_hop true (connection_options (fields_of_stored come.came)) name ≡ true
      = ap (λ (b : Bool). b || is_named (connection_options (fields_of_stored come.came)) name) known in
      f.fields name not_age ∙ come.kept.fields.hop_by_hop name hop not_date
