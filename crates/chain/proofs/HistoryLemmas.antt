-- The calls of a shared store are a run of `interference`.
use Rattle.std.proofs.Common.{◌≡◌, ◌≢◌, ◌⊎◌, ℕ, ◌+◌, ◌<◌, ◌≤◌, List, [], ◌∷◌, ◌++◌, length, refl, sym, ap, subst}
use Rattle.std.proofs.{Common.{◌∙◌, arith, false, true, get_or, inl, inr, suc}, lemmas.Bool.Decides.nat_tests}
use Rattle.std.proofs.lemmas.{Bool.{both_ways, cases_Bool, eq-eqb}, List.{Folds.list_any_at, length-append}}
use Rattle.std.proofs.lemmas.{Option.same_Some, Slice.Eq.bytes_eq-Decides}
use Rattle.std.specs.Prelude.{All, bytes_eq, codes, unwrap_or}
use Rattle.{headers.specs.{LineMap.LineMap, Lines.{Line, only_line}}, rfc_fields.specs.Members.field_members}
use Rattle.cache_policy.specs.{Policies.{MayStoreUnder, Policy, tells}, Requests.{AllowsMethod, Request}}
use Rattle.cache_policy.specs.{Updating.IsUpdated, Varying.{Agree, AreAlike, Suits}}
use Rattle.cache_policy.specs.declared.{Governing.Governing, Kind.TheVariants.Shared}
use Rattle.cache_rules.{proofs.StoringLemmas.governing_stays, specs.{Freshening.{IsFreshened, IsReusable}}}
use Rattle.cache_rules.specs.{Selection.IsCandidate, Stored.{fields_of_stored, request_of_stored}}
use Rattle.cache_rules.specs.{Storing.{HasFairOptions, reuse_names}, declared.freshening.Exchange.Exchange}
use Rattle.cache_rules.specs.declared.{storing.Reception.Reception, stored.StoredResponse.StoredResponse}
use Rattle.gateway_messages.specs.HopByHop.{connection_options, is_named}
use Rattle.cache_store.{proofs.HistoryLemmas.HasUnder-responses_at, proofs.NumberLemmas.Has-numbered}
use Rattle.cache_store.specs.{Changes.IsStoredAs, Contents.{Contents, responses_at}, Served.IsRightlyServed}
use Rattle.cache_store.specs.History.{Call, Call.{Answered, Arrived, Described, Looked, Removed, Validated}}
use Rattle.cache_store.specs.{History.{HasUnder, History, IsJustified}, declared.limits.Limits.Limits}
use Rattle.interference.specs.Events.{Event, Event.{Arrives, Begins, Changes, Freshens, Looks, Replies, Sends}, Setting}
use Rattle.interference.specs.Events.{answered, arrives, asked_now, happens, nth, run, run_from, with_stored}
use Rattle.interference.specs.{Statements.{Has, IsOwn}, Worlds.{Answer, Asked, Clients, Dated, Message}}
use Rattle.interference.specs.Worlds.{Node, Origin, Received, Request as Sent, World, is_fresh, matches}
use Rattle.interference.specs.Worlds.{Message.{Coming, Going, Nothing}, Reply.Whole as Full, may_store, start, told}
use Rattle.chain.specs.Sharing.{IsAsked, IsConfirmed, IsContentSince, IsHeld, IsOf, IsServedNext, TakeAnswers}
use Rattle.chain.specs.Sharing.{TakesAnswer, right, sent, storing_by, storing_of, tag_of, updated, varies}
use Rattle.chain.proofs.RunLemmas.{Keeps, Stays, asked_in, freshen, place, run_from-append, stays-refl, take}
use Rattle.chain.proofs.{RunLemmas.{take-stays, take-stores}, SharingLemmas.{matching, may-be, nth-end, of-new}}
use Rattle.chain.proofs.SharingLemmas.{sends-stored, stored-anew}

-- ---- what a stored response has of the one that came

not_date : (name : List ℕ) → bytes_eq name (codes "date") ≡ false → name ≢ codes "date"
not_date name other same = both_ways _ other ((bytes_eq-Decides name (codes "date")).1 same)

module _ (policy : Policy) (came stored : StoredResponse) (fair : HasFairOptions policy.targets (fields_of_stored came))
    (kept : IsStoredAs came stored) where
  unnamed : (i : ℕ) → i < length reuse_names
      → is_named (connection_options (fields_of_stored came)) (get_or reuse_names i []) ≡ true → ⊥
  unnamed i within named = grind (
    arith,
    fair.unnamed,
    list_any_at (is_named (connection_options (fields_of_stored came))) reuse_names i [] within named,
  )

  vary-stays : fields_of_stored stored (codes "vary") ≡ fields_of_stored came (codes "vary")
  vary-stays = kept.fields.end_to_end (codes "vary") (unnamed 11 (omega arith)) (not_date (codes "vary") refl)

  tag-stays : tag_of (fields_of_stored came) ≡ tag_of (fields_of_stored stored)
  tag-stays = ap (λ (lines : List Line). unwrap_or (only_line lines) [])
      (sym (kept.fields.end_to_end (codes "etag") (unnamed 7 (omega arith)) (not_date (codes "etag") refl)))

  storing-stays : storing_of policy (fields_of_stored came) ≡ storing_of policy (fields_of_stored stored)
  storing-stays = sym (
      ap (λ (by : Governing). storing_by by.directives (varies (fields_of_stored stored)))
      (governing_stays policy.targets came.received (fields_of_stored came) (fields_of_stored stored) fair kept.fields)
      ∙ ap (λ (lines : List Line). storing_by (tells policy (fields_of_stored came)) (field_members true lines))
      vary-stays
      )

  request-stays : request_of_stored came ≡ request_of_stored stored
  request-stays = rw (kept.method, kept.request) refl

  suits-came : (other : Request) → IsCandidate other stored
      → Suits (request_of_stored came) other (fields_of_stored came)
  suits-came other suits = record {
    method = subst (λ m. AllowsMethod m other.method) kept.method suits.method;
    fields = subst (λ (q : Request). AreAlike q.fields other.fields (fields_of_stored came)) (sym request-stays) (subst
        (λ (lines : List Line). All (Agree (request_of_stored stored).fields other.fields) (field_members true lines))
        vary-stays suits.fields);
  }

  pub of-stored : (target : ℕ) (asked : Sent) (given : Dated) → IsOf policy target came asked given
      → IsOf policy target stored asked given
  of-stored target asked given of = record {
    asks = of.asks ∙ ap (sent target) request-stays;
    content = of.content ∙ sym kept.content;
    storing = of.storing ∙ storing-stays;
    tag = of.tag ∙ tag-stays;
  }

-- ---- methods, and what a lookup serves

get_alone : (m n : List ℕ) → AllowsMethod m n → n ≡ codes "GET" → m ≡ codes "GET"
get_alone m n allows get = grind arith

pub record WasFound (policy : Policy) (calls : History) (contents : Contents) (target : List ℕ) (request : Request)
    (stored : StoredResponse) : Type 0 where
  pub under : HasUnder contents target stored
  pub justified : IsJustified policy target calls stored
  pub fits : IsCandidate request stored

pub found : (policy : Policy) (limits : Limits) (target_of : List ℕ → ℕ) (clients : Clients) (calls : History)
    (target : List ℕ) (request : Request) (stored : StoredResponse)
    (s : IsServedNext policy limits target_of clients calls target request stored)
    → IsRightlyServed policy s.most target calls request s.now (responses_at target s.contents) s.number s.age
    → WasFound policy calls s.contents target request stored
found policy limits target_of clients calls target request stored s served =
    let same = same_Some served.response stored (sym served.at ∙ s.at) in
    record {
      under = HasUnder-responses_at target s.contents stored (Has-numbered _ s.number stored s.at).0;
      justified = subst (IsJustified policy target calls) same served.justified;
      fits = subst (λ (r : StoredResponse). IsCandidate request r) same served.matches;
    }

-- ---- what a cache of the model has

fresh_first : (given : Dated) → is_fresh 0 given ≡ true
fresh_first given = grind (arith, nat_tests)

held-kept : (policy : Policy) (target : ℕ) (stored : StoredResponse) (a b : Node) → Keeps a b
    → IsHeld policy target stored a → IsHeld policy target stored b
held-kept policy target stored a b keeps h = record {
  number = h.number;
  one = h.one;
  at = keeps.same h.number h.given ∙ h.at;
  given = omega (arith, h.given, keeps.next);
  is = h.is;
}

held-new : (policy : Policy) (target : ℕ) (stored : StoredResponse) (node new : Node) (asked : Sent) (given : Dated)
    → new ≡ with_stored asked given node → IsOf policy target stored asked given → IsHeld policy target stored new
held-new policy target stored node new asked given same of = subst (IsHeld policy target stored) (sym same) (record {
  number = node.next;
  one = record { number = node.next; request = asked; given = given };
  at = rw (eq-eqb node.next node.next refl) refl;
  given = omega arith;
  is = of;
})

module _ (policy : Policy) (shared : policy.kind ≡ Shared) (target_of : List ℕ → ℕ) (origin : Origin)
    (clients : Clients) (cache : ℕ) where
  abbrev s : Setting
  s = right origin clients

  -- it has what the calls justify, or no request selects that
  abbrev HoldsAll : History → Node → Type 0
  HoldsAll calls node =
      (key : List ℕ) (stored : StoredResponse) → IsJustified policy key calls stored → stored.method ≡ codes "GET"
      → IsHeld policy (target_of key) stored node ⊎ ((other : Request) → ¬ (IsCandidate other stored))

  pub record Follows (calls : History) : Type 0 where
    pub events : List Event
    pub now : (run s events).now ≡ 0
    pub version : (run s events).version ≡ length calls
    pub holds : HoldsAll calls ((run s events).nodes cache)

  goes-on : (call : Call) (calls : History) (h : Follows calls) (more : List Event)
      → Stays cache (run s h.events) (run_from s more (run s h.events))
      → HoldsAll (call ∷ calls) ((run_from s more (run s h.events)).nodes cache) → Follows (call ∷ calls)
  goes-on call calls h more stay holds =
      let w = run s h.events in
      let joined : run s (h.events ++ (more ++ Changes ∷ [])) ≡ happens s (run_from s more w) Changes
      = run_from-append s h.events (more ++ Changes ∷ []) start ∙ run_from-append s more (Changes ∷ []) w in
      record {
        events = h.events ++ (more ++ Changes ∷ []);
        now = ap (λ (x : World). x.now) joined ∙ stay.now ∙ h.now;
        version = ap (λ (x : World). x.version) joined ∙ omega (arith, stay.version, h.version);
        holds = subst (λ (x : World). HoldsAll (call ∷ calls) (x.nodes cache)) (sym joined) holds;
      }

  kept-all : (calls : History) (w v : World) → Stays cache w v → HoldsAll calls (w.nodes cache)
      → HoldsAll calls (v.nodes cache)
  kept-all calls w v stay all key stored is get = elim (all key stored is get) [
    | inl held ↦ inl (held-kept policy (target_of key) stored (w.nodes cache) (v.nodes cache) stay.keeps held)
    | inr none ↦ inr none
  ]

  -- ---- a response that comes

  comes : (target : List ℕ) (came : StoredResponse) (reception : Reception) (calls : History) (h : Follows calls)
      → TakesAnswer policy target_of origin clients calls (Arrived target came reception)
      → Follows (Arrived target came reception ∷ calls)
  comes target came reception calls h takes = elim (cases_Bool (bytes_eq came.method (codes "GET"))) [
    | inr other ↦
        goes-on (Arrived target came reception) calls h [] (stays-refl cache (run s h.events)) (λ key stored is get.
        elim is [
          | inl was ↦ h.holds key stored was get
          | inr now ↦ absurd (both_ways _ other
              ((bytes_eq-Decides came.method (codes "GET")).1 (sym now.2.method ∙ get)))
        ])
    | inl same ↦
        let w = run s h.events in
        let t = takes ((bytes_eq-Decides came.method (codes "GET")).0 same) in
        let client = t.asked.0 in
        let read : (heard : List Dated) → (clients client (length calls) heard).is_get ≡ true
        = λ heard. ap (λ (q : Sent). q.is_get) (t.asked.1 heard) ∙ same in
        let asked = asked_in origin clients cache client (length calls) read w in
        let given = answered origin w asked.request in
        let more = take origin clients cache client (length calls) read w in
        let v = run_from s more w in
        let stay = take-stays origin clients cache client (length calls) read w in
        let said : given.answer ≡ origin (length calls) (sent (target_of target) (request_of_stored came))
        = ap (origin w.version) (t.asked.1 (told client w.received))
        ∙ ap (λ (n : ℕ). origin n (sent (target_of target) (request_of_stored came))) h.version in
        let of : IsOf policy (target_of target) came asked.request given = record {
          asks = t.asked.1 (told client w.received);
          content = ap (λ (a : Answer). a.content) said ∙ t.is.content;
          storing = ap (λ (a : Answer). a.head.storing) said ∙ t.is.storing;
          tag = ap (λ (a : Answer). a.head.etag) said ∙ t.is.tag;
        } in
        goes-on (Arrived target came reception) calls h more stay (λ key stored is get. elim is [
          | inl was ↦ kept-all calls w v stay h.holds key stored was get
          | inr new ↦
              let fair = new.1.fair in
              elim (may-be policy shared (target_of target) came.status (fields_of_stored came) given.answer.head
              of.storing
              (request_of_stored came) ((bytes_eq-Decides came.method (codes "GET")).0 same) new.1.allowed) [
                | inl may ↦
                    inl (subst (λ (k : List ℕ). IsHeld policy (target_of k) stored (v.nodes cache)) new.0
                    (held-new policy (target_of target) stored (w.nodes cache) (v.nodes cache) asked.request given
                    (take-stores origin clients cache client (length calls) read w
                    (subst (λ (q : Sent). may_store q given.answer.head ≡ true) (sym of.asks) may))
                    (of-stored policy came stored fair new.2 (target_of target) asked.request given of)))
                | inr none ↦ inr (λ other suits. none other (suits-came policy came stored fair new.2 other suits))
              ]
        ])
  ]

  -- ---- a 304

  -- of a stored response to GET a 304 makes another
  record Renews (calls : History) (target : List ℕ) (request : Request) (update : LineMap) (exchange : Exchange)
      : Type 0 where
    old : StoredResponse
    new : StoredResponse
    get : old.method ≡ codes "GET"
    was : IsJustified policy target calls old
    about : IsUpdated (fields_of_stored old) update
    fresh : IsFreshened old update exchange new
    reusable : IsReusable policy (fields_of_stored old) request update new

  validated : (target : List ℕ) (request : Request) (update : LineMap) (exchange : Exchange) (calls : History)
      → Follows calls → IsConfirmed policy target_of origin clients calls target request update exchange
      → Follows (Validated target request update exchange ∷ calls)
  validated target request update exchange calls h t =
      let w = run s h.events in
      let client = t.asked.0 in
      let read : (heard : List Dated) → (clients client (length calls) heard).is_get ≡ true
      = λ heard. ap (λ (q : Sent). q.is_get) (t.asked.1 heard)
      ∙ (bytes_eq-Decides request.method (codes "GET")).1 t.method in
      let all = freshen origin clients cache client (length calls) read
      {I = Renews calls target request update exchange}
      (λ i one. IsOf policy (target_of target) i.old one.request one.given)
      (λ i node. IsHeld policy (target_of target) i.new node)
      (λ i a b keeps held. held-kept policy (target_of target) i.new a b keeps held) (length calls)
      (λ u v pass which i one is at has of.
      let asked = asked_in origin clients cache client (length calls) read u in
      let asks = t.asked.1 (told client u.received) in
      let said : origin u.version asked.request ≡ origin (length calls) (sent (target_of target) request)
      = ap (origin u.version) asks ∙ ap (λ (n : ℕ). origin n (sent (target_of target) request)) is in
      let head = (origin u.version asked.request).head in
      let says : head.storing ≡ storing_of policy (fields_of_stored i.new)
      = ap (λ (a : Answer). a.head.storing) said ∙ t.storing i.old i.new i.was i.about i.fresh in
      let tagged : head.etag ≡ tag_of update = ap (λ (a : Answer). a.head.etag) said ∙ t.tag in
      held-new policy (target_of target) i.new (v.nodes cache)
      ((run_from s (Looks pass ∷ Freshens (length v.passes) which ∷ []) v).nodes cache) one.request
      (updated u.version u.now head one)
      (stored-anew policy shared request update exchange i.old i.new t.method i.get t.strong i.about i.fresh i.reusable
      (target_of target) u.version u.now head one of says tagged origin clients v pass
      (place origin clients cache client (length calls) which false u) at asks has)
      (of-new policy shared request update exchange i.old i.new t.method i.get t.strong i.about i.fresh i.reusable
      (target_of target) u.version u.now head one of says tagged))
      (w.nodes cache).next w h.version in
      let v = run_from s all.events w in
      goes-on (Validated target request update exchange) calls h all.events all.stays (λ key stored is get. elim is [
        | inl was ↦ kept-all calls w v all.stays h.holds key stored was get
        | inr (same, (old, was, fits, about, fresh, reusable)) ↦
            elim (h.holds key old was (sym fresh.method ∙ get)) [
              | inl held ↦
                  let here = subst (λ (k : List ℕ). IsHeld policy (target_of k) old (w.nodes cache)) (sym same) held in
                  let i : Renews calls target request update exchange = record {
                    old = old;
                    new = stored;
                    get = sym fresh.method ∙ get;
                    was = subst (λ (k : List ℕ). IsJustified policy k calls old) (sym same) was;
                    about = about;
                    fresh = fresh;
                    reusable = reusable;
                  } in
                  inl (subst (λ (k : List ℕ). IsHeld policy (target_of k) stored (v.nodes cache)) same
                  (all.fresh here.number i here.one here.given here.given here.at here.is))
              | inr none ↦ absurd (none request fits)
            ]
      ])

  -- ---- all calls

  pub follows : (calls : History) → TakeAnswers policy target_of origin clients calls → Follows calls
  follows [] takes = record { events = []; now = refl; version = refl; holds = λ key stored none get. absurd none }
  follows (Looked other ∷ calls) takes =
      let h = follows calls takes.1 in
      goes-on (Looked other) calls h [] (stays-refl cache (run s h.events)) h.holds
  follows (Arrived target came reception ∷ calls) takes =
      comes target came reception calls (follows calls takes.1) takes.0
  follows (Validated target request update exchange ∷ calls) takes =
      validated target request update exchange calls (follows calls takes.1) takes.0
  follows (Described target request head exchange ∷ calls) takes = absurd takes.0
  follows (Answered other method status ∷ calls) takes =
      let h = follows calls takes.1 in
      goes-on (Answered other method status) calls h [] (stays-refl cache (run s h.events))
      (λ key stored is get. h.holds key stored is.1 get)
  follows (Removed other ∷ calls) takes =
      let h = follows calls takes.1 in
      goes-on (Removed other) calls h [] (stays-refl cache (run s h.events))
      (λ key stored is get. h.holds key stored is.1 get)

  -- ---- what is served

  module _ (calls : History) (takes : TakeAnswers policy target_of origin clients calls)
      (own : (events : List Event) (received : Received) → Has (run s events).received received
      → IsOwn origin (run s events) received) where
    pub own-answer : (key : List ℕ) (stored : StoredResponse) (request : Request) → IsJustified policy key calls stored
        → MayStoreUnder policy (request_of_stored stored) stored.status (fields_of_stored stored)
        → IsCandidate request stored → request.method ≡ codes "GET" → IsAsked target_of clients (length calls) key
        request
        → IsContentSince origin 0 (length calls) (sent (target_of key) request) stored.content
    own-answer key stored request is may fits get asked = let h = follows calls takes in elim (h.holds key stored is
        (get_alone stored.method request.method fits.method get)) [
          | inr none ↦ absurd (none request fits)
          | inl held ↦
              let w = run s h.events in
              let one = held.one in
              let u = happens s w (Sends asked.0 (length calls)) in
              let going : Asked = asked_now asked.0 (clients asked.0 (length calls) (told asked.0 w.received)) w in
              let asks : going.request ≡ sent (target_of key) request = asked.1 (told asked.0 w.received) in
              let suits : matches one.given.answer.head one.request going.request ≡ true = rw (held.is.asks, asks)
              (matching policy shared (target_of key) stored.status (fields_of_stored stored) one.given.answer.head
              held.is.storing (request_of_stored stored) request may fits) in
              let read : going.request.is_get ≡ true
              = rw asks ((bytes_eq-Decides request.method (codes "GET")).1 get) in
              let fresh : is_fresh w.now one.given ≡ true
              = subst (λ (n : ℕ). is_fresh n one.given ≡ true) (sym h.now) (fresh_first one.given) in
              let sent_back = sends-stored origin clients u (length w.messages) cache held.number [] going one
              (nth-end Nothing w.messages (Going [] going)) held.at read suits fresh in
              let v = run_from s
              (Begins (length w.messages) cache held.number ∷ Replies (length w.passes) true ∷ []) u in
              let events = h.events ++ Sends asked.0 (length calls) ∷ Begins (length w.messages) cache held.number
              ∷ Replies (length w.passes) true ∷ Arrives (length u.messages) ∷ [] in
              let joined : run s events ≡ happens s v (Arrives (length u.messages))
              = run_from-append s h.events (Sends asked.0 (length calls) ∷ Begins (length w.messages) cache held.number
              ∷ Replies (length w.passes) true ∷ Arrives (length u.messages) ∷ []) start in
              let received : Received = record { asked = going; given = one.given } in
              let got : Has (run s events).received received
              = subst (λ (x : World). Has x.received received) (sym joined)
              (subst (λ (m : Message). Has (arrives m v.received) received)
              (sym (ap (λ (ms : List Message). nth Nothing ms (length u.messages)) sent_back
              ∙ nth-end Nothing u.messages
              (Coming [] going (Full one.given))))
              (inl refl)) in
              let is_own = own events received got in
              record {
                version = one.given.version;
                from = omega arith;
                until = subst (λ n. one.given.version ≤ n) (ap (λ (x : World). x.version) joined ∙ h.version) is_own.0;
                same = sym held.is.content ∙ is_own.2 ∙ ap (λ (q : Sent). (origin one.given.version q).content) asks;
              }
        ]

-- ---- the later calls alone

abbrev pub later_origin : Origin → History → Origin
later_origin origin earlier version request = origin (version + suc (length earlier)) request

abbrev pub later_clients : Clients → History → Clients
later_clients clients earlier client number heard = clients client (number + suc (length earlier)) heard

module _ (policy : Policy) (target_of : List ℕ → ℕ) (origin : Origin) (clients : Clients) (call : Call)
    (earlier : History) where
  counted : (later : History) → length (later ++ call ∷ earlier) ≡ length later + suc (length earlier)
  counted later = omega (arith, length-append later (call ∷ earlier))

  justified-too : (target : List ℕ) (later : History) (stored : StoredResponse) → IsJustified policy target later stored
      → IsJustified policy target (later ++ call ∷ earlier) stored
  justified-too target [] stored none = absurd none
  justified-too target (Looked other ∷ later) stored is = justified-too target later stored is
  justified-too target (Arrived other came reception ∷ later) stored (inl is) = inl (justified-too target later stored
      is)
  justified-too target (Arrived other came reception ∷ later) stored (inr is) = inr is
  justified-too target (Validated other request update exchange ∷ later) stored (inl is) =
      inl (justified-too target later stored is)
  justified-too target (Validated other request update exchange ∷ later) stored (inr (
    same,
    (
      old,
      was,
      fits,
      about,
      fresh,
      reusable,
    ),
  )) =
      inr (same, (old, justified-too target later old was, fits, about, fresh, reusable))
  justified-too target (Described other request head exchange ∷ later) stored (inl is) =
      inl (justified-too target later stored is)
  justified-too target (Described other request head exchange ∷ later) stored (inr (
    same,
    (
      old,
      was,
      fits,
      about,
      fresh,
      reusable,
    ),
  )) =
      inr (same, (old, justified-too target later old was, fits, about, fresh, reusable))
  justified-too target (Answered other method status ∷ later) stored is = (is.0, justified-too target later stored is.1)
  justified-too target (Removed other ∷ later) stored is = (is.0, justified-too target later stored is.1)

  later-takes : (later : History) → TakeAnswers policy target_of origin clients (later ++ call ∷ earlier)
      → TakeAnswers policy target_of (later_origin origin earlier) (later_clients clients earlier) later
  later-takes [] takes = tt
  later-takes (Looked other ∷ later) takes = (tt, later-takes later takes.1)
  later-takes (Arrived target came reception ∷ later) takes = (
    λ get. let t = takes.0 get in
        let n = counted later in
        let said = ap (λ (version : ℕ). origin version (sent (target_of target) (request_of_stored came))) n in
        record {
          asked = subst (λ (number : ℕ). IsAsked target_of clients number target (request_of_stored came)) n t.asked;
          is = record {
            asks = t.is.asks;
            content = ap (λ (a : Answer). a.content) (sym said) ∙ t.is.content;
            storing = ap (λ (a : Answer). a.head.storing) (sym said) ∙ t.is.storing;
            tag = ap (λ (a : Answer). a.head.etag) (sym said) ∙ t.is.tag;
          };
        },
    later-takes later takes.1,
  )
  later-takes (Validated target request update exchange ∷ later) takes = (
    let t = takes.0 in
        let n = counted later in
        let said = ap (λ (version : ℕ). origin version (sent (target_of target) request)) n in
        record {
          method = t.method;
          strong = t.strong;
          asked = subst (λ (number : ℕ). IsAsked target_of clients number target request) n t.asked;
          tag = ap (λ (a : Answer). a.head.etag) (sym said) ∙ t.tag;
          storing = λ old new was about fresh. ap (λ (a : Answer). a.head.storing) (sym said)
              ∙ t.storing old new (justified-too target later old was) about fresh;
        },
    later-takes later takes.1,
  )
  later-takes (Described target request head exchange ∷ later) takes = absurd takes.0
  later-takes (Answered target method status ∷ later) takes = (tt, later-takes later takes.1)
  later-takes (Removed target ∷ later) takes = (tt, later-takes later takes.1)

pub own-since : (policy : Policy) (shared : policy.kind ≡ Shared) (target_of : List ℕ → ℕ) (origin : Origin)
    (clients : Clients) (later : History) (call : Call) (earlier : History)
    → TakeAnswers policy target_of origin clients (later ++ call ∷ earlier)
    → ((events : List Event) (received : Received)
    → Has (run (right (later_origin origin earlier) (later_clients clients earlier)) events).received received
    → IsOwn (later_origin origin earlier)
    (run (right (later_origin origin earlier) (later_clients clients earlier)) events) received)
    → (target : List ℕ) (stored : StoredResponse) (request : Request) → IsJustified policy target later stored
    → MayStoreUnder policy (request_of_stored stored) stored.status (fields_of_stored stored)
    → IsCandidate request stored → request.method ≡ codes "GET"
    → IsAsked target_of clients (length (later ++ call ∷ earlier)) target request
    → IsContentSince origin (length earlier + 1) (length (later ++ call ∷ earlier)) (sent (target_of target) request)
    stored.content
own-since policy shared target_of origin clients later call earlier takes own target stored request is may fits get
    asked =
    let n = counted policy target_of origin clients call earlier later in
    let a = own-answer policy shared target_of (later_origin origin earlier) (later_clients clients earlier) 0 later
    (later-takes policy target_of origin clients call earlier later takes) own target stored request is may fits get
    (subst (λ (number : ℕ). IsAsked target_of clients number target request) n asked) in
    record {
      version = a.version + suc (length earlier);
      from = omega arith;
      until = omega (arith, n, a.until);
      same = a.same;
    }
