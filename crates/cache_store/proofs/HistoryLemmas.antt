-- What the calls of a store leave is justified by them.
use Rattle.std.proofs.Common.{◌≡◌, ◌≢◌, arith, Bool, cond, false, filter, Option, remove, slice_get, subst, true, zero}
use Rattle.std.proofs.Common.{[], ◌++◌, ◌∙◌, ◌∷◌, ◌⊎◌, ap, drop, inl, inr, List, None, not, Some, suc, sym, take, ℕ}
use Rattle.{cache_rules.specs.{Freshening.IsReusable, Stored.request_of_stored}, std.proofs.Common.refl}
use Rattle.{headers.specs.LineMap.{Field, LineMap}, std.proofs.lemmas.{Option.same_Some, Slice.Eq.bytes_eq-Decides}}
use Rattle.{cache_policy.specs.Decisions.IsGoodEnough, cache_store.specs.declared.limits.Limits.Limits}
use Rattle.cache_policy.specs.{declared.decision.Decision.Decision, Requests.Request, Policies.{asks, Policy, tells}}
use Rattle.cache_rules.specs.{declared.stored.StoredResponse.StoredResponse, Stored.fields_of_stored}
use Rattle.cache_rules.specs.declared.{freshening.Exchange.Exchange, storing.Reception.Reception}
use Rattle.cache_store.specs.{Changes.{IsFront, IsRefreshedTo, IsRest}, History.IsJustified, Numbers.numbered}
use Rattle.cache_store.specs.{Updates.{AreLeft, BecomesBeside, BecomesByHead}, Served.{IsRightlyServed, Serves}}
use Rattle.cache_store.specs.declared.lookup.Lookup.{Lookup, TheVariants.{Serve, ServeAndRevalidate}}
use Rattle.cache_store.specs.{declared.freshening.Refreshed.TheVariants.{Absent, Once, Stored, Unchanged}, History.Has}
use Rattle.cache_store.specs.Contents.{Contents, is_for, responses_at, Target, used, with_target, without}
use Rattle.cache_store.specs.History.{HasUnder, Call, Call.{Answered, Arrived, Described, Looked, Removed, Validated}}
use Rattle.cache_store.specs.{Lookups.{age_of_stored, freshness_of, IsAnswer, IsFound}, History.{History, Run, Step}}
use Rattle.cache_policy.specs.declared.decision.Decision.TheVariants as decisions

-- ---- elements of lists

pub Has-append : {X : Type 0} (xs ys : List X) (x : X) → Has (xs ++ ys) x → Has xs x ⊎ Has ys x
Has-append [] ys x h = inr h
Has-append (y ∷ xs) ys x (inl same) = inl (inl same)
Has-append (y ∷ xs) ys x (inr h) = elim (Has-append xs ys x h) [ inl a ↦ inl (inr a) | inr b ↦ inr b ]

pub Has-take : {X : Type 0} (n : ℕ) (xs : List X) (x : X) → Has (take n xs) x → Has xs x
Has-take zero xs x h = absurd h
Has-take (suc n) [] x h = absurd h
Has-take (suc n) (y ∷ xs) x (inl same) = inl same
Has-take (suc n) (y ∷ xs) x (inr h) = inr (Has-take n xs x h)

pub Has-drop : {X : Type 0} (n : ℕ) (xs : List X) (x : X) → Has (drop n xs) x → Has xs x
Has-drop zero xs x h = h
Has-drop (suc n) [] x h = absurd h
Has-drop (suc n) (y ∷ xs) x h = inr (Has-drop n xs x h)

pub Has-remove : {X : Type 0} (xs : List X) (i : ℕ) (x : X) → Has (remove xs i) x → Has xs x
Has-remove xs i x h = elim (Has-append (take i xs) (drop (suc i) xs) x h) [
  | inl a ↦ Has-take i xs x a
  | inr b ↦ Has-drop (suc i) xs x b
]

pub Has-filter : {X : Type 0} (p : X → Bool) (xs : List X) (x : X) → Has (filter p xs) x → Has xs x × (p x ≡ true)
Has-filter p [] x h = absurd h
Has-filter p (y ∷ xs) x h = (elim (p y) as (λ b. p y ≡ b → Has (cond b (y ∷ filter p xs) (filter p xs)) x → Has (y ∷
    xs) x × (p x ≡ true)) [
      | true ↦ λ t k. elim k [
        | inl same ↦ (inl same, subst (λ z. p z ≡ true) same t)
        | inr r ↦ let on = Has-filter p xs x r in (inr on.0, on.1)
      ]
      | false ↦ λ t k. let on = Has-filter p xs x k in (inr on.0, on.1)
    ]) refl h

pub Has-slice_get : {X : Type 0} (xs : List X) (i : ℕ) (x : X) → slice_get xs i ≡ Some x → Has xs x
Has-slice_get [] i x h = absurd (grind (arith, h))
Has-slice_get (y ∷ xs) zero x h = inl (grind (arith, h))
Has-slice_get (y ∷ xs) (suc i) x h = inr (Has-slice_get xs i x h)

-- what is left of stored responses was made of one of them
pub Has-left : (B : StoredResponse → Option StoredResponse → Type 0) (all left : List StoredResponse) → AreLeft B
    all left → (stored : StoredResponse) → Has left stored → (old : StoredResponse) × Has all old × B old (Some stored)
Has-left B [] left none stored h = absurd (subst (λ l. Has l stored) none h)
Has-left B (one ∷ all) left (None, rest, becomes, are, put) stored h =
    let on = Has-left B all rest are stored (subst (λ l. Has l stored) put h) in (on.0, inr on.1, on.2)
Has-left B (one ∷ all) left (Some fresh, rest, becomes, are, put) stored h = elim (subst (λ l. Has l stored) put h) [
  | inl same ↦ (one, inl refl, subst (λ s. B one (Some s)) same becomes)
  | inr r ↦ let on = Has-left B all rest are stored r in (on.0, inr on.1, on.2)
]

-- ---- what a store has

pub Has-without : (target : List ℕ) (contents : Contents) (entry : Target) → Has (without target contents) entry
    → Has contents entry × (target ≢ entry.0)
Has-without target contents entry h = let kept = Has-filter (λ e. not (is_for target e)) contents entry h in
    (kept.0, λ same. grind (arith, kept.1, (bytes_eq-Decides target entry.0).1 same))

pub Has-used : (target : List ℕ) (contents : Contents) (entry : Target) → Has (used target contents) entry → Has
    contents entry
Has-used target contents entry h = elim (Has-append (filter (is_for target) contents) (without target contents) entry
    h) [ inl a ↦ (Has-filter (is_for target) contents entry a).0 | inr b ↦ (Has-without target contents entry b).0 ]

pub HasUnder-weaker : (old new : Contents) → ((entry : Target) → Has new entry → Has old entry) → (target : List ℕ)
    (stored : StoredResponse) → HasUnder new target stored → HasUnder old target stored
HasUnder-weaker old new weaker target stored h =
    record { responses = h.responses; at = weaker (target, h.responses) h.at; among = h.among }

pub HasUnder-responses_at : (target : List ℕ) (contents : Contents) (stored : StoredResponse)
    → Has (responses_at target contents) stored → HasUnder contents target stored
HasUnder-responses_at target [] stored h = absurd h
HasUnder-responses_at target (entry ∷ contents) stored h = (elim (is_for target entry) as (λ b. is_for target entry ≡
    b → Has (cond b entry.1 (responses_at target contents)) stored → HasUnder (entry ∷ contents) target stored) [
      | true ↦ λ t k. record {
        responses = entry.1;
        at = inl (ap (λ key. (key, entry.1)) (sym ((bytes_eq-Decides target entry.0).0 t)));
        among = k;
      }
      | false ↦ λ t k. let under = HasUnder-responses_at target contents stored k in
          record { responses = under.responses; at = inr under.at; among = under.among }
    ]) refl h

-- what is under a target that was put first
pub under-put : (target : List ℕ) (responses : List StoredResponse) (rest new : Contents) → new ≡ (target, responses)
    ∷ rest → (other : List ℕ) (stored : StoredResponse) → HasUnder new other stored
    → HasUnder rest other stored ⊎ ((target ≡ other) × Has responses stored)
under-put target responses rest new put other stored h = elim (subst (λ l. Has l (other, h.responses)) put h.at) [
  | inl same ↦ inr (ap (λ entry. entry.0) same, subst (λ l. Has l stored) (sym (ap (λ entry. entry.1) same)) h.among)
  | inr k ↦ inl (record { responses = h.responses; at = k; among = h.among })
]

-- the same, where it is put only if it has responses
pub under-with_target : (target : List ℕ) (responses : List StoredResponse) (rest new : Contents)
    → new ≡ with_target target responses rest → (other : List ℕ) (stored : StoredResponse) → HasUnder new other stored
    → HasUnder rest other stored ⊎ ((target ≡ other) × Has responses stored)
under-with_target target [] rest new put other stored h = inl (subst (λ l. HasUnder l other stored) put h)
under-with_target target (response ∷ responses) rest new put other stored h =
    under-put target (response ∷ responses) rest new put other stored h

-- ---- what a call leaves

pub Has-rest : (new : Request) (all rest : List StoredResponse) → IsRest new all rest → (stored : StoredResponse)
    → Has rest stored → Has all stored
Has-rest new all rest (inl none) stored h = subst (λ l. Has l stored) none.1 h
Has-rest new all rest (inr (place, found, inl removed)) stored h = Has-remove all place stored (rw removed.1 at h)
Has-rest new all rest (inr (place, found, inr other)) stored h = rw other.1 at h

module _ (policy : Policy) (limits : Limits) where
  -- what is stored under a target is justified
  abbrev pub AreJustified : History → Contents → Type 0
  AreJustified calls contents = (target : List ℕ) (stored : StoredResponse)
      → HasUnder contents target stored → IsJustified policy target calls stored

  module _ (calls : History) (old new : Contents) (before : AreJustified calls old) where
    weaker : ((entry : Target) → Has new entry → Has old entry) → AreJustified calls new
    weaker fewer target stored h = before target stored (HasUnder-weaker old new fewer target stored h)

    fewer-front : (target : List ℕ) → IsFront (without target old) new → (entry : Target) → Has new entry → Has old
        entry
    fewer-front target front entry h =
        (Has-without target old entry (Has-take front.count (without target old) entry (rw front.front at h))).0

    fewer-without : (target : List ℕ) → new ≡ without target old → (entry : Target) → Has new entry → Has old entry
    fewer-without target left entry h = (Has-without target old entry (subst (λ l. Has l entry) left h)).0

    -- those that stay under the target
    stays : (target : List ℕ) (stored : StoredResponse) → Has (responses_at target old) stored → IsJustified policy
        target calls stored
    stays target stored h = before target stored (HasUnder-responses_at target old stored h)

    looked : (target : List ℕ) → new ≡ used target old → AreJustified (Looked target ∷ calls) new
    looked target left other stored h = weaker (λ entry k. Has-used target old entry (rw left at k)) other stored h

    removed : (target : List ℕ) → new ≡ without target old → AreJustified (Removed target ∷ calls) new
    removed target left other stored h =
        let kept = Has-without target old (other, h.responses) (subst (λ l. Has l (other, h.responses)) left h.at) in
        (kept.1, before other stored (record { responses = h.responses; at = kept.0; among = h.among }))

    -- those of other targets
    apart : (target other : List ℕ) (stored : StoredResponse) → HasUnder (without target old) other stored
        → IsJustified policy other calls stored
    apart target other stored h = before other stored
        (HasUnder-weaker old (without target old) (λ entry k. (Has-without target old entry k).0) other stored h)

    arrived : (target : List ℕ) (came : StoredResponse) (reception : Reception) → Step policy limits
        (Arrived target came reception) old new → AreJustified (Arrived target came reception ∷ calls) new
    arrived target came reception (inl same) other stored h =
        inl (weaker (λ entry k. subst (λ l. Has l entry) same k) other stored h)
    arrived target came reception (inr (inl (one, allowed, kept_as, inserted))) other stored h =
        elim (under-put target (inserted.kept ++ one ∷ []) inserted.rest new inserted.put other stored h) [
          | inl under ↦ inl (before other stored (HasUnder-weaker old inserted.rest (λ entry k. (Has-without target old
              entry (Has-take inserted.room.count (without target old) entry (rw inserted.room.front at k))).0) other
              stored under))
          | inr is ↦ elim (Has-append inserted.kept (one ∷ []) stored is.1) [
            | inl a ↦ inl (rw is.0 at (stays target stored (Has-rest (request_of_stored one) (responses_at target old)
                inserted.others inserted.beside stored
                (Has-drop inserted.trimmed.count inserted.others stored (rw inserted.trimmed.left at a)))))
            | inr b ↦ elim b [ inl same ↦ inr (is.0, allowed, rw same at kept_as) | inr none ↦ absurd none ]
          ]
        ]
    arrived target came reception (inr (inr front)) other stored h = inl (weaker (fewer-front target front) other
        stored h)

    module _ (target : List ℕ) (request : Request) (update : LineMap) (exchange : Exchange) where
      -- one of the responses that a 304 left beside its answer
      beside : (those left : List StoredResponse) → AreLeft (BecomesBeside policy request update exchange) those left
          → ((stored : StoredResponse) → Has those stored → Has (responses_at target old) stored)
          → (stored : StoredResponse) → Has left stored
          → IsJustified policy target (Validated target request update exchange ∷ calls) stored
      beside those left are within stored h =
          let was = Has-left (BecomesBeside policy request update exchange) those left are stored h in
          let justified = stays target was.0 (within was.0 was.1) in
          elim was.2 [
            | inl is ↦ inr (refl, (was.0, justified, is.0.sought.0, is.0.sought.1, is.1.0, is.1.1))
            | inr same ↦ inl (subst (IsJustified policy target calls) (sym (same_Some stored was.0 same.1)) justified)
          ]

      -- the answer itself
      answered : (fresh : StoredResponse) (left : List StoredResponse) → (r : IsRefreshedTo policy target request update
          exchange old new fresh left) → IsReusable policy (fields_of_stored r.selected.response) request update fresh
          → IsJustified policy target (Validated target request update exchange ∷ calls) fresh
      answered fresh left r reusable =
          let was = r.selected.response in
          inr (
            refl,
            let justified = stays target was (Has-slice_get (responses_at target old) r.place was r.selected.at) in
                (was, justified, r.selected.is.0, r.selected.is.1, r.freshened, reusable),
          )

      others : (place : ℕ) (stored : StoredResponse) → Has (remove (responses_at target old) place) stored
          → Has (responses_at target old) stored
      others place stored k = Has-remove (responses_at target old) place stored k

      validated : Step policy limits (Validated target request update exchange) old new
          → AreJustified (Validated target request update exchange ∷ calls) new
      validated (inl (Absent, r)) other stored h = inl (weaker (λ entry k. subst (λ l. Has l entry) r.1 k) other
          stored h)
      validated (inl (Unchanged, r)) other stored h = inl (weaker (λ entry k. subst (λ l. Has l entry) r.2 k) other
          stored h)
      validated (inl (Stored at, r)) other stored h =
          elim (under-put target (r.left ++ r.fresh ∷ []) (without target old) new r.put other stored h) [
            | inl under ↦ inl (apart target other stored under)
            | inr is ↦
                subst (λ t. IsJustified policy t (Validated target request update exchange ∷ calls) stored) is.0
                (elim (Has-append r.left (r.fresh ∷ []) stored is.1) [
                  | inl a ↦ beside (remove (responses_at target old) r.refreshed.place) r.left r.refreshed.beside
                      (others r.refreshed.place) stored a
                  | inr b ↦ elim b [
                    | inl same ↦ subst (IsJustified policy target (Validated target request update exchange ∷ calls))
                        same (answered r.fresh r.left r.refreshed r.reusable)
                    | inr none ↦ absurd none
                  ]
                ])
          ]
      validated (inl (Once fresh, r)) other stored h =
          elim (under-with_target target r.left (without target old) new r.put other stored h) [
            | inl under ↦ inl (apart target other stored under)
            | inr is ↦
                subst (λ t. IsJustified policy t (Validated target request update exchange ∷ calls) stored) is.0
                (beside (remove (responses_at target old) r.refreshed.place) r.left r.refreshed.beside
                (others r.refreshed.place) stored is.1)
          ]
      validated (inr left) other stored h = inl (weaker (fewer-without target left) other stored h)

      -- one of the responses that a HEAD left
      by_head : (left : List StoredResponse) → AreLeft
          (BecomesByHead policy request update exchange) (responses_at target old) left → (stored : StoredResponse)
          → Has left stored → IsJustified policy target (Described target request update exchange ∷ calls) stored
      by_head left are stored h =
          let was = Has-left (BecomesByHead policy request update exchange)
          (responses_at target old) left are stored h in
          let justified = stays target was.0 was.1 in
          elim was.2 [
            | inl is ↦ inr (refl, (was.0, justified, is.0, is.1, is.2.0, is.2.1))
            | inr rest ↦ elim rest [
              | inl gone ↦ absurd (grind (arith, gone.2))
              | inr same ↦ inl (subst (IsJustified policy target calls) (sym (same_Some stored was.0 same.1)) justified)
            ]
          ]

      described : Step policy limits (Described target request update exchange) old new
          → AreJustified (Described target request update exchange ∷ calls) new
      described (inl r) other stored h =
          elim (under-with_target target r.left (without target old) new r.put other stored h) [
            | inl under ↦ inl (apart target other stored under)
            | inr is ↦ subst (λ t. IsJustified policy t (Described target request update exchange ∷ calls) stored) is.0
                (by_head r.left r.each stored is.1)
          ]
      described (inr left) other stored h = inl (weaker (fewer-without target left) other stored h)

    answered_request : (target method : List ℕ) (status : ℕ) → Step policy limits
        (Answered target method status) old new → AreJustified (Answered target method status ∷ calls) new
    answered_request target method status (inl (is, left)) other stored h =
        let kept = removed target left other stored h in ((λ _. kept.0), kept.1)
    answered_request target method status (inr (isnt, same)) other stored h =
        ((λ is. absurd (isnt is)), weaker (λ entry k. subst (λ l. Has l entry) same k) other stored h)

  step : (call : Call) (calls : History) (old new : Contents) → AreJustified calls old → Step policy limits call old new
      → AreJustified (call ∷ calls) new
  step (Looked target) calls old new before change = looked calls old new before target change
  step (Arrived target came reception) calls old new before change = arrived calls old new before target came
      reception change
  step (Validated target request update exchange) calls old new before change =
      validated calls old new before target request update exchange change
  step (Described target request head exchange) calls old new before change =
      described calls old new before target request head exchange change
  step (Answered target method status) calls old new before change =
      answered_request calls old new before target method status change
  step (Removed target) calls old new before change = removed calls old new before target change

  -- whatever the calls are, what they leave is justified by them
  pub run-justified : (calls : History) (contents : Contents) → Run policy limits calls contents → AreJustified calls
      contents
  run-justified [] contents none target stored h = absurd (subst (λ l. Has l (target, h.responses)) none h.at)
  run-justified (call ∷ calls) contents (old, ran, change) target stored h =
      step call calls old contents (run-justified calls old ran) change target stored h

-- ---- what is served

module _ (policy : Policy) (limits : Limits) (calls : History) (contents : Contents)
    (ran : Run policy limits calls contents)
    (target : List ℕ) (most : ℕ) (request : Request) (now : ℕ) where
  -- a stored response that is found for a request, and is good enough
  served : (decision : Decision)
      (place number : ℕ) (found : IsFound policy most request now (responses_at target contents) decision place)
      → numbered number (responses_at target contents) ≡ Some found.selected.response → (age : Field)
      → age ≡ age_of_stored found.selected.response now → IsGoodEnough policy.kind (asks policy request.fields
      (fields_of_stored found.selected.response) (freshness_of found.lifetime found.selected.response now)) (tells
      policy (fields_of_stored found.selected.response)) (freshness_of found.lifetime found.selected.response now)
      → IsRightlyServed policy most target calls request now (responses_at target contents) number age
  served decision place number found at age same good = record {
    response = found.selected.response;
    at = at;
    justified = run-justified policy limits calls contents ran target found.selected.response
        (HasUnder-responses_at target contents found.selected.response (Has-slice_get (responses_at target
        contents) place found.selected.response found.selected.at));
    matches = found.selected.is.0;
    lifetime = found.lifetime;
    fresh_for = found.fresh_for;
    good = good;
    age = same;
  }

  shown : {named number : ℕ} {stored : StoredResponse} → named ≡ number → numbered named
      (responses_at target contents) ≡ Some stored → numbered number (responses_at target contents) ≡ Some stored
  shown {stored = stored} same at = subst (λ n. numbered n (responses_at target contents) ≡ Some stored) same at

  pub lookup_served : (lookup : Lookup) → IsAnswer policy most request now (responses_at target contents) lookup
      → (number : ℕ) (age : Field) → Serves lookup number age
      → IsRightlyServed policy most target calls request now (responses_at target contents) number age
  lookup_served (Serve named line) (inl is) number age same = served decisions.Serve is.place number is.found
      (shown same.0 is.shown) age (sym same.1 ∙ is.age) (is.found.decided.0, inl is.found.decided.1)
  lookup_served (Serve named line) (inr is) number age same = served decisions.ServeStale is.place number is.found
      (shown same.0 is.shown) age (sym same.1 ∙ is.age) (is.found.decided.0, inr (inr is.found.decided.3))
  lookup_served (ServeAndRevalidate named line) is number age same = served decisions.ServeAndRevalidate is.place number
      is.found (shown same.0 is.shown) age (sym same.1 ∙ is.age) (is.found.decided.0, inr (inl is.found.decided.2))
  lookup_served lookup is number age none = absurd none
