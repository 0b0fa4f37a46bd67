-- What a step answers is right.
use Rattle.std.proofs.{Common.{◌∷◌, ◌≡◌, length, List, Ok, refl}, lemmas.Slice.Eq.bytes_eq-Decides}
use Rattle.std.proofs.Common.{[], ◌++◌, ◌∙◌, ap, arith, inl, inr, Option, Result, slice_get, Some, subst, sym, true, ℕ}
use Rattle.std.specs.{declared.alloc.AllocError.AllocError, Prelude.IsSomeAnd}
use Rattle.cache_rules.specs.{declared.stored.StoredResponse.StoredResponse, Freshening.IsFreshened}
use Rattle.cache_rules.specs.declared.{conditions.StoredAnswer.StoredAnswer, freshening.Exchange.Exchange}
use Rattle.cache_rules.specs.{Conditions.IsStoredAnswer, declared.storing.Reception.{Reception, TheVariants.Incomplete}}
use Rattle.{cache_rules.specs.Selection.IsCandidate, http_header.specs.{FieldValue.FieldValue, HeaderMap.Entries}}
use Rattle.cache_store.specs.{Contents.{Contents, responses_at, without}, History.{History, IsJustified}}
use Rattle.cache_store.specs.{Changes.{IsLetGo, IsRestored}, Kept.contents_of, Numbers.numbered}
use Rattle.cache_store.proofs.{LawLemmas.stored-may-be, NumberLemmas.{distinct-at, Has-numbered, numbered-at}}
use Rattle.cache_store.proofs.HistoryLemmas.{Has-slice_get, HasUnder-responses_at, run-justified}
use Rattle.cache_pass.specs.{Replies.{IsFirst, IsReplyTo, IsShown, IsShownOnError}, Steps.HasFailed}
use Rattle.cache_pass.specs.{Effects.{kept_of, Settings, settings_of, stored_at}, Steps.{HasBegun, HasCome, HasEnded}}
use Rattle.cache_pass.specs.declared.{cache.Cache.Cache, replying.{First.First, Reply.Reply}, revalidating.Next.Next}
use Rattle.cache_pass.specs.declared.pass.{Asked.Asked, Pass.Pass}
use Rattle.cache_pass.specs.{Origin.IsNext, Passes.{asked_of, key_of, request_of_pass}, Worlds.{Acts, IsStep, World}}
use Rattle.cache_pass.specs.{Right.IsRight, Worlds.{calls_of, Deed, Deed.{Apart, Begins, Comes, Ends, Fails}, Reaches}}
use Rattle.cache_pass.specs.{Answers.IsShownAfter, Right.{IsOfStored, IsRightOnError, IsRightReply, IsRightValidated}}
use Rattle.{cache_pass.proofs.CallLemmas.{acts-run, HasRun, reached, some-unkept}, headers.specs.LineMap.lines_at}
use Rattle.{cache_policy.specs.{declared.decision.Decision.Decision, Requests.Request}, headers.specs.LineMap.LineMap}
use Rattle.cache_policy.specs.declared.decision.Decision.TheVariants as decisions
use Rattle.cache_pass.specs.declared.replying.First.TheVariants as first
use Rattle.cache_pass.specs.declared.revalidating.Next.TheVariants as next

module _ (settings : Settings) (world : World) (ran : HasRun settings world) (pass : Pass) (now : ℕ) (reply : Reply)
  where
    -- a response with the number that is under the target of the pass, matches and is shown
    of-stored : (stored : StoredResponse) → numbered reply.number (stored_at (key_of pass) world.cache) ≡ Some stored
        → IsCandidate (request_of_pass pass) stored → IsReplyTo (request_of_pass pass) now stored reply
        → IsOfStored settings world pass now reply stored
    of-stored stored named matches shown =
        let under = HasUnder-responses_at (key_of pass) (contents_of world.cache.store) stored
        (Has-numbered (stored_at (key_of pass) world.cache) reply.number stored named).0 in
        record {
          named = named;
          justified = run-justified settings.policy settings.limits (calls_of world.log)
              (contents_of world.cache.store) ran (key_of pass) stored under;
          may_be_stored = stored-may-be settings.policy settings.limits (calls_of world.log)
              (contents_of world.cache.store) ran (key_of pass) stored under;
          matches = matches;
          shown = shown;
        }

    abbrev Shown : Decision → Type 0
    Shown decision = IsShown settings (request_of_pass pass) now (stored_at (key_of pass) world.cache) decision reply

    of-shown : (decision : Decision) → (s : Shown decision)
        → IsOfStored settings world pass now reply s.found.selected.response
    of-shown decision s = of-stored s.found.selected.response s.named s.found.selected.is.0 s.replies

    right-serve : Shown decisions.Serve → IsRightReply settings world pass now reply
    right-serve s = (
      s.found.selected.response,
      of-shown decisions.Serve s,
      record {
        lifetime = s.found.lifetime;
        fresh_for = s.found.fresh_for;
        good = (s.found.decided.0, inl s.found.decided.1);
      },
    )

    right-stale : Shown decisions.ServeStale → IsRightReply settings world pass now reply
    right-stale s = (
      s.found.selected.response,
      of-shown decisions.ServeStale s,
      record {
        lifetime = s.found.lifetime;
        fresh_for = s.found.fresh_for;
        good = (s.found.decided.0, inr (inr s.found.decided.3));
      },
    )

    right-meanwhile : Shown decisions.ServeAndRevalidate → IsRightReply settings world pass now reply
    right-meanwhile s = (
      s.found.selected.response,
      of-shown decisions.ServeAndRevalidate s,
      record {
        lifetime = s.found.lifetime;
        fresh_for = s.found.fresh_for;
        good = (s.found.decided.0, inr (inl s.found.decided.2));
      },
    )

    as-on-error : IsRightReply settings world pass now reply → IsRightOnError settings world pass now reply
    as-on-error (stored, is, good) = (stored, is, inl good)

    right-error : IsShownOnError settings (request_of_pass pass) now (stored_at (key_of pass) world.cache) reply
        → IsRightOnError settings world pass now reply
    right-error (decision, s, inl same) = as-on-error (right-serve (subst Shown same s))
    right-error (decision, s, inr (inl same)) = as-on-error (right-stale (subst Shown same s))
    right-error (decision, s, inr (inr (inl same))) = as-on-error (right-meanwhile (subst Shown same s))
    right-error (decision, s, inr (inr (inr same))) =
        let is = subst Shown same s in (
          is.found.selected.response,
          of-shown decisions.RevalidateOrServe is,
          inr (record { lifetime = is.found.lifetime; fresh_for = is.found.fresh_for; good = is.found.decided.2 }),
        )

-- ---- the response that a 304 updated

slice-last : (xs : List StoredResponse) (x : StoredResponse) → slice_get (xs ++ x ∷ []) (length xs) ≡ Some x
slice-last [] x = grind arith
slice-last (y ∷ xs) x = grind (arith, slice-last xs x)

at-put : (target : List ℕ) (responses : List StoredResponse) (rest : Contents)
    → responses_at target ((target, responses) ∷ rest) ≡ responses
at-put target responses rest = rw ((bytes_eq-Decides target target).1 refl)

-- the last of the responses under a target is the one that its number names
last-named : (cache : Cache) (target : List ℕ) (left : List StoredResponse) (fresh : StoredResponse) (rest : Contents)
    → contents_of cache.store ≡ (target, left ++ fresh ∷ []) ∷ rest
    → numbered fresh.number (stored_at target cache) ≡ Some fresh
last-named cache target left fresh rest put =
    let same : stored_at target cache ≡ left ++ fresh ∷ [] =
    ap (responses_at target) put ∙ at-put target (left ++ fresh ∷ []) rest in
    numbered-at (stored_at target cache) (length left) fresh
    (distinct-at cache.store.next target (contents_of cache.store) cache.store.counted.numbered)
    (subst (λ (l : List StoredResponse). slice_get l (length left) ≡ Some fresh) (sym same) (slice-last left fresh))

pub restored-named : (settings : Settings) (cache : Cache) (key : List ℕ) (request : Request) (update : LineMap)
    (exchange : Exchange) (old : Contents) (number : ℕ)
    → (is : IsRestored settings.policy key request update exchange old (contents_of cache.store) number)
    → numbered number (stored_at key cache) ≡ Some is.fresh
restored-named settings cache key request update exchange old number is =
    subst (λ (n : ℕ). numbered n (stored_at key cache) ≡ Some is.fresh) (sym is.at)
    (last-named cache key is.left is.fresh (without key old) is.put)

-- ---- a step

module _ (settings : Settings) (before world : World) (pass : Pass) (new : Pass) (was_run : HasRun settings before)
    (ran : HasRun settings world) (are : settings_of before.cache ≡ settings) where
  abbrev Right : Deed → Type 0
  Right = IsRight settings before world pass

  begun-right : (now : ℕ) (given : Result First AllocError) → HasBegun pass before.cache now new world.cache given
      → Right (Begins now given)
  begun-right now (Ok (first.Reply reply)) h = elim (subst (λ (s : Settings). IsFirst s (request_of_pass pass) now
      (stored_at (key_of pass) world.cache) (first.Reply reply)) are h.answer) [
        | inl s ↦ right-serve settings world ran pass now reply s
        | inr s ↦ right-stale settings world ran pass now reply s
      ]
  begun-right now (Ok (first.ReplyAndValidate reply)) h = right-meanwhile settings world ran pass now reply
      (subst (λ (s : Settings). IsFirst s (request_of_pass pass) now (stored_at (key_of pass) world.cache)
      (first.ReplyAndValidate reply)) are h.answer)
  begun-right now given h = tt

  failed-right : (now : ℕ) (found : Result (Option Reply) AllocError)
      → HasFailed pass before.cache now new world.cache found → Right (Fails now found)
  failed-right now (Ok (Some reply)) h = right-error settings world ran pass now reply
      (subst (λ (s : Settings). IsShownOnError s (request_of_pass pass) now (stored_at (key_of pass) world.cache) reply)
      are h.answer)
  failed-right now found h = tt

  module _ (status : ℕ) (response : Entries FieldValue) (now : ℕ) (asked : Asked)
      (asking : asked_of pass.phase ≡ Some asked) where
    abbrev made : Exchange
    made = record { requested = asked.requested; received = now }

    validated-right : (reply : Reply)
        → IsShownAfter settings (key_of pass) (request_of_pass pass) (lines_at response) made (kept_of before.cache)
        (kept_of world.cache) reply → IsRightValidated settings world pass now (lines_at response) asked reply
    validated-right reply is =
        let fresh = is.restored.fresh in
        let named : numbered reply.number (stored_at (key_of pass) world.cache) ≡ Some fresh =
        restored-named settings world.cache (key_of pass) (request_of_pass pass) (lines_at response) made
        (contents_of before.cache.store) reply.number is.restored in
        let shown : IsReplyTo (request_of_pass pass) now fresh reply = subst (λ (o : Option StoredResponse). IsSomeAnd o
        (λ stored. IsReplyTo (request_of_pass pass) now stored reply)) named is.replies in (
          fresh,
          of-stored settings world ran pass now reply fresh named is.restored.reusable.1.suits shown,
          (is.restored.refreshed.selected.response, is.restored.refreshed.freshened),
        )

    once-right : (fresh : StoredResponse) (answer : StoredAnswer)
        → IsLetGo settings.policy (key_of pass) (request_of_pass pass) (lines_at response) made
        (contents_of before.cache.store) (contents_of world.cache.store) fresh
        → IsStoredAnswer now (request_of_pass pass) fresh true answer → (old : StoredResponse)
        × IsJustified settings.policy (key_of pass) (calls_of before.log) old × IsCandidate (request_of_pass pass) old
        × IsFreshened old (lines_at response) made fresh × IsStoredAnswer now (request_of_pass pass) fresh true answer
    once-right fresh answer is answered =
        let chosen = is.refreshed.selected in (
          chosen.response,
          run-justified settings.policy settings.limits (calls_of before.log) (contents_of before.cache.store) was_run
              (key_of pass) chosen.response
              (HasUnder-responses_at (key_of pass) (contents_of before.cache.store) chosen.response
              (Has-slice_get (stored_at (key_of pass) before.cache) is.refreshed.place chosen.response chosen.at)),
          chosen.is.0,
          is.refreshed.freshened,
          answered,
        )

    abbrev Nexts : History → Result Next AllocError → Settings → Type 0
    Nexts calls given s = IsNext s (key_of pass) (request_of_pass pass) asked status (lines_at response) now
        (kept_of before.cache) (kept_of world.cache) calls given

    next-right : (calls : History) (given : Result Next AllocError) → Nexts calls given settings
        → Right (Comes status response now given)
    next-right calls (Ok (next.Reply reply)) (inl (validates, outdated, none, asks)) = absurd (cc)
    next-right calls (Ok (next.Reply reply)) (inr (inl (validates, fine, one, is))) =
        inl (validates.1, (asked, asking, validated-right reply is))
    next-right calls (Ok (next.Reply reply)) (inr (inr (inl (other, failed, one, is)))) =
        inr (failed, right-error settings world ran pass now reply is)
    next-right calls (Ok (next.Reply reply)) (inr (inr (inr (other, unfailed, removed, is)))) = absurd is
    next-right calls (Ok (next.Once fresh answer)) (inl (validates, outdated, none, asks)) = absurd (cc)
    next-right calls (Ok (next.Once fresh answer)) (inr (inl (validates, fine, one, is))) =
        (validates.1, (asked, asking, once-right fresh answer is.0 is.1))
    next-right calls (Ok (next.Once fresh answer)) (inr (inr (inl (other, failed, one, is)))) = absurd is
    next-right calls (Ok (next.Once fresh answer)) (inr (inr (inr (other, unfailed, removed, is)))) = absurd is
    next-right calls given is = tt

  come-right : (status : ℕ) (response : Entries FieldValue) (now : ℕ) (given : Result Next AllocError)
      → HasCome pass before.cache status response now new world.cache given → Right (Comes status response now given)
  come-right status response now given h = next-right status response now h.asked h.asking h.calls given
      (subst (λ (s : Settings). IsNext s (key_of pass) (request_of_pass pass) h.asked status (lines_at response) now
      (kept_of before.cache) (kept_of world.cache) h.calls given) are h.answer)

  ended-right : (content : List ℕ) (reception : Reception) (now : ℕ) (number : Result (Option ℕ) AllocError)
      → HasEnded pass before.cache content reception now new world.cache number
      → Right (Ends content reception now number)
  ended-right content reception now (Ok (Some number)) h = elim h.closed [
    | inl (complete, (came, received, inl (past, none, same, unnamed))) ↦ absurd (some-unkept number Incomplete unnamed)
    | inl (complete, (came, received, inr (timely, storing))) ↦
        let named = storing.named in
        record {
          asked = h.asked;
          status = h.status;
          response = h.response;
          passing = h.passing;
          came = came;
          received = received;
          stored = named.0;
          stored_as = named.2;
          named = subst (λ (n : ℕ). numbered n (stored_at (key_of pass) world.cache) ≡ Some named.0) named.3
              (last-named world.cache (key_of pass) named.4.kept named.0 named.4.rest named.4.put);
          latest = λ late. timely (inr late);
        }
    | inr (same, none, unnamed) ↦ absurd (some-unkept number reception unnamed)
  ]
  ended-right content reception now number h = tt

  step-right : (calls : History) (deed : Deed) → IsStep deed pass before.cache new world.cache calls → Right deed
  step-right calls (Begins now given) (h, same) = begun-right now given h
  step-right calls (Comes status response now given) (h, same) = come-right status response now given h
  step-right calls (Fails now found) (h, same) = failed-right now found h
  step-right calls (Ends content reception now number) (h, same) = ended-right content reception now number h
  step-right calls (Apart call) is = tt

pub answers-right : (settings : Settings) (deeds : List (ℕ × Deed)) (before : World) → Reaches settings deeds before
    → (pass : ℕ) (deed : Deed) (world : World) → Acts pass deed before world
    → IsRight settings before world (before.passes pass) deed
answers-right settings deeds before were pass deed world acts =
    let on = reached settings deeds before were in
    step-right settings before world (before.passes pass) (world.passes pass) on.1
    (acts-run settings pass deed before world on.0 on.1 acts) on.0 acts.calls deed acts.step
