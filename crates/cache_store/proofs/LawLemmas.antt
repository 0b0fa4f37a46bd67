-- What follows of each stored response that calls justify.
use Rattle.std.proofs.Common.{[], ◌++◌, ◌∙◌, ◌∷◌, ◌≡◌, ap, Bool, codes, false, inl, inr, List, subst, sym, true, ℕ}
use Rattle.{headers.specs.{LineMap.LineMap, Typed.HasLine}, cache_rules.specs.Stored.fields_of_stored}
use Rattle.cache_policy.specs.{Directives.directed, Storing.{IsSuited, StoresBy}, Targets.governing, Requests.Request}
use Rattle.cache_policy.specs.{Freshness.HasExpires, Policies.{MayStoreUnder, Policy}, declared.Governing.Governing}
use Rattle.cache_rules.{proofs.StoringLemmas.{expires_stays, governing_stays}, specs.Stored.request_of_stored}
use Rattle.cache_rules.specs.declared.{stored.StoredResponse.StoredResponse, storing.Reception.Reception}
use Rattle.cache_store.specs.{Changes.{IsStoredAs, IsToStore}, History.{Call, HasCome, HasUnder, History, IsJustified}}
use Rattle.cache_store.specs.{Contents.Contents, History.{Removes, Run, Call.{Arrived, Described, Looked, Validated}}}
use Rattle.cache_store.specs.{declared.limits.Limits.Limits, History.Call.{Answered, Removed}}
use Rattle.cache_store.proofs.HistoryLemmas.{run-justified}

-- ---- what may be stored

-- what may be stored depends on what governs it, and on Expires
module _ (policy : Policy) (request : Request) (status : ℕ) (given stored : LineMap)
    (governed : governing policy.targets stored ≡ governing policy.targets given)
    (expires_same : stored (codes "expires") ≡ given (codes "expires")) where
  has_expires : (counts : Bool) → HasExpires counts given → HasExpires counts stored
  has_expires true is = subst HasLine (sym expires_same) is
  has_expires false is = is

  suited : (by : Governing) → IsSuited policy.kind status by given → IsSuited policy.kind status by stored
  suited by (inl is) = inl is
  suited by (inr (inl is)) = inr (inl is)
  suited by (inr (inr (inl is))) = inr (inr (inl (has_expires by.by_expires is)))
  suited by (inr (inr (inr is))) = inr (inr (inr is))

  stores : (by : Governing) → StoresBy policy.kind request status given (directed request.fields) by
      → StoresBy policy.kind request status stored (directed request.fields) by
  stores by may = assumption (may, suited by may.suited)

  same-stores : MayStoreUnder policy request status given → MayStoreUnder policy request status stored
  same-stores may = stores (governing policy.targets stored) (rw (← governed) at may)

-- a response that may be stored may be stored as it is stored
module _ (policy : Policy) (came stored : StoredResponse) (became : IsStoredAs came stored) where
  same_request : request_of_stored came ≡ request_of_stored stored
  same_request = ap (λ method. request_of_stored (record came { method = method })) (sym became.method) ∙ ap
      (λ request. request_of_stored (record came { method = stored.method; request = request })) (sym became.request)

  came-stores : (reception : Reception) → IsToStore policy came reception
      → MayStoreUnder policy (request_of_stored stored) stored.status (fields_of_stored stored)
  came-stores reception is = let given = fields_of_stored came in
      let kept = fields_of_stored stored in
      subst (λ status. MayStoreUnder policy (request_of_stored stored) status kept)
      (sym became.status) (subst (λ request. MayStoreUnder policy request came.status kept) same_request
      (same-stores policy (request_of_stored came) came.status given kept
      (governing_stays policy.targets came.received given kept is.fair became.fields)
      (expires_stays policy.targets came.received given kept is.fair became.fields) is.allowed))

module _ (policy : Policy) (target : List ℕ) where
  may-be : (calls : History) (stored : StoredResponse) → IsJustified policy target calls stored
      → MayStoreUnder policy (request_of_stored stored) stored.status (fields_of_stored stored)
  may-be [] stored none = absurd none
  may-be (Looked other ∷ calls) stored is = may-be calls stored is
  may-be (Arrived other came reception ∷ calls) stored (inl is) = may-be calls stored is
  may-be (Arrived other came reception ∷ calls) stored (inr is) = came-stores policy came stored is.2 reception is.1
  may-be (Validated other request update exchange ∷ calls) stored (inl is) = may-be calls stored is
  may-be (Validated other request update exchange ∷ calls)
      stored (inr (same, (old, was, fits, about, fresh, reusable))) = reusable.1.first
  may-be (Described other request head exchange ∷ calls) stored (inl is) = may-be calls stored is
  may-be (Described other request head exchange ∷ calls) stored (inr (same, (old, was, get, about, fresh, reusable))) =
      reusable.1.first
  may-be (Answered other method status ∷ calls) stored is = may-be calls stored is.1
  may-be (Removed other ∷ calls) stored is = may-be calls stored is.1

  -- ---- where it comes from

  further : (call : Call) (calls : History) (stored : StoredResponse) → HasCome target calls stored
      → HasCome target (call ∷ calls) stored
  further call calls stored h = record {
    came = h.came;
    reception = h.reception;
    called = inr h.called;
    method = h.method;
    request = h.request;
    status = h.status;
    content = h.content;
  }

  came-from : (calls : History) (stored : StoredResponse) → IsJustified policy target calls stored
      → HasCome target calls stored
  came-from [] stored none = absurd none
  came-from (Looked other ∷ calls) stored is = further (Looked other) calls stored (came-from calls stored is)
  came-from (Arrived other came reception ∷ calls) stored (inl is) =
      further (Arrived other came reception) calls stored (came-from calls stored is)
  came-from (Arrived other came reception ∷ calls) stored (inr is) = record {
    came = came;
    reception = reception;
    called = inl (ap (λ t. Arrived t came reception) is.0);
    method = is.2.method;
    request = is.2.request;
    status = is.2.status;
    content = is.2.content;
  }
  came-from (Validated other request update exchange ∷ calls) stored (inl is) =
      further (Validated other request update exchange) calls stored (came-from calls stored is)
  came-from (Validated other request update exchange ∷ calls) stored
      (inr (same, (old, was, fits, about, fresh, reusable))) =
      let h = further (Validated other request update exchange) calls old (came-from calls old was) in
      record {
        came = h.came;
        reception = h.reception;
        called = h.called;
        method = fresh.method ∙ h.method;
        request = fresh.request ∙ h.request;
        status = fresh.status ∙ h.status;
        content = fresh.content ∙ h.content;
      }
  came-from (Described other request head exchange ∷ calls) stored (inl is) =
      further (Described other request head exchange) calls stored (came-from calls stored is)
  came-from (Described other request head exchange ∷ calls) stored
      (inr (same, (old, was, get, about, fresh, reusable))) =
      let h = further (Described other request head exchange) calls old (came-from calls old was) in
      record {
        came = h.came;
        reception = h.reception;
        called = h.called;
        method = fresh.method ∙ h.method;
        request = fresh.request ∙ h.request;
        status = fresh.status ∙ h.status;
        content = fresh.content ∙ h.content;
      }
  came-from (Answered other method status ∷ calls) stored is =
      further (Answered other method status) calls stored (came-from calls stored is.1)
  came-from (Removed other ∷ calls) stored is = further (Removed other) calls stored (came-from calls stored is.1)

  -- ---- after a removal

  none-after : (call : Call) (earlier : History) (stored : StoredResponse) → Removes target call
      → IsJustified policy target (call ∷ earlier) stored → ⊥
  none-after (Answered other method status) earlier stored removes is = is.0 removes.1 removes.0
  none-after (Removed other) earlier stored same is = is.0 same
  none-after call earlier stored none is = none

  -- nothing from before a removal is justified after it
  module _ (call : Call) (earlier : History) (removes : Removes target call) where
    since : (later : History) (stored : StoredResponse) → IsJustified policy target (later ++ call ∷ earlier) stored
        → IsJustified policy target later stored
    since [] stored is = absurd (none-after call earlier stored removes is)
    since (Looked other ∷ later) stored is = since later stored is
    since (Arrived other came reception ∷ later) stored (inl is) = inl (since later stored is)
    since (Arrived other came reception ∷ later) stored (inr is) = inr is
    since (Validated other request update exchange ∷ later) stored (inl is) = inl (since later stored is)
    since (Validated other request update exchange ∷ later) stored
        (inr (same, (old, was, fits, about, fresh, reusable))) =
        inr (same, (old, since later old was, fits, about, fresh, reusable))
    since (Described other request head exchange ∷ later) stored (inl is) = inl (since later stored is)
    since (Described other request head exchange ∷ later) stored (inr (same, (old, was, get, about, fresh, reusable))) =
        inr (same, (old, since later old was, get, about, fresh, reusable))
    since (Answered other method status ∷ later) stored is = (is.0, since later stored is.1)
    since (Removed other ∷ later) stored is = (is.0, since later stored is.1)

-- ---- the laws

pub stored-may-be : (policy : Policy) (limits : Limits) (calls : History) (contents : Contents)
    → Run policy limits calls contents → (target : List ℕ) (stored : StoredResponse) → HasUnder contents target stored
    → MayStoreUnder policy (request_of_stored stored) stored.status (fields_of_stored stored)
stored-may-be policy limits calls contents ran target stored h =
    may-be policy target calls stored (run-justified policy limits calls contents ran target stored h)

pub stored_came : (policy : Policy) (limits : Limits) (calls : History) (contents : Contents) → Run policy limits calls
    contents → (target : List ℕ) (stored : StoredResponse) → HasUnder contents target stored
    → HasCome target calls stored
stored_came policy limits calls contents ran target stored h =
    came-from policy target calls stored (run-justified policy limits calls contents ran target stored h)

pub stored_since : (policy : Policy) (limits : Limits) (later : History) (call : Call) (earlier : History)
    (contents : Contents) → Run policy limits (later ++ call ∷ earlier) contents → (target : List ℕ) → Removes
    target call → (stored : StoredResponse) → HasUnder contents target stored → IsJustified policy target later stored
stored_since policy limits later call earlier contents ran target removes stored h = since policy target call
    earlier removes later stored (run-justified policy limits (later ++ call ∷ earlier) contents ran target stored h)
