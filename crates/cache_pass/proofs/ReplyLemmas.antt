-- What replies show.
use Rattle.headers.specs.{declared.Encoded.Encoded, LineMap.{Field, field_of, LineMap}}
use Rattle.cache_rules.specs.declared.{freshening.Exchange.Exchange, stored.StoredResponse.StoredResponse}
use Rattle.{cache_pass.specs.{Answers.IsShownAfter, Effects.{Kept, Settings}}, cache_rules.specs.Conditions.IsForCache}
use Rattle.cache_pass.specs.{declared.replying.{First.First, Reply.Reply}, Replies.{IsAlone, IsFirst, number_on_error}}
use Rattle.cache_pass.{proofs.CallLemmas.none-some, specs.Replies.{IsNoneOnError, IsOnError, IsReplyTo, IsShown}}
use Rattle.std.specs.{declared.alloc.AllocError.AllocError, Prelude.{IfOk, IsSomeAnd, MatchOption}}
use Rattle.std.proofs.Common.{◌∙◌, ◌≡◌, ◌⊎◌, Err, inl, inr, List, None, Ok, Option, refl, Result, Some, subst, sym, ℕ}
use Rattle.{cache_store.proofs.NumberLemmas.Has-numbered, std.proofs.lemmas.Option.same_Some}
use Rattle.cache_store.specs.{Changes.IsRestored, Lookups.{age_of_stored, HasFields, IsAnswer}, Numbers.numbered}
use Rattle.cache_store.specs.{Contents.responses_at, declared.lookup.Lookup.Lookup, Lookups.IsServed}
use Rattle.cache_policy.specs.{declared.decision.Decision.Decision, Requests.Request}
use Rattle.cache_policy.specs.declared.decision.Decision.TheVariants as decisions
use Rattle.cache_store.specs.declared.lookup.Lookup.TheVariants as lookup
use Rattle.cache_pass.specs.declared.replying.First.TheVariants as first

some-and : {X : Type 0} (o : Option X) (P : X → Type 0) → IsSomeAnd o P → (x : X) × (o ≡ Some x) × P x
some-and None P none = absurd none
some-and (Some x) P is = (x, refl, is)

-- what is shown isn't missing
pub not-shown : {X P : Type 0} {o : Option X} {x : X} → o ≡ Some x → (o ≡ None) ⊎ P → P
not-shown shown (inl none) = absurd (none-some (sym none ∙ shown))
not-shown shown (inr other) = other

module _ (settings : Settings) (request : Request) (now : ℕ) (responses : List StoredResponse) where
  -- the reply by a number: the request is evaluated, and the response with the number is shown
  abbrev Replies : ℕ → Reply → Type 0
  Replies number reply =
      IsForCache request × IsSomeAnd (numbered number responses) (λ stored. IsReplyTo request now stored reply)

  -- the response with a number is the one that is selected for the request, and this is decided about it
  abbrev IsFoundBy : ℕ → Decision → Field → Type 0
  IsFoundBy number decision line = IsServed settings.policy settings.guess request now responses decision number line

  shows : (number : ℕ) (decision : Decision) (line : Field) → IsFoundBy number decision line → (reply : Reply)
      → Replies number reply → IsShown settings request now responses decision reply
  shows number decision line by reply is =
      let stored = by.found.selected.response in
      let replies : IsReplyTo request now stored reply =
      subst (λ (o : Option StoredResponse). IsSomeAnd o (λ s. IsReplyTo request now s reply)) by.shown is.1 in
      let same : reply.number ≡ number = replies.number ∙ (Has-numbered responses number stored by.shown).1 in
      record {
        place = by.place;
        found = by.found;
        named = subst (λ (n : ℕ). numbered n responses ≡ Some stored) (sym same) by.shown;
        evaluated = is.0;
        replies = replies;
      }

  abbrev Answers : Lookup → Type 0
  Answers = IsAnswer settings.policy settings.guess request now responses

  abbrev Fields : Type 0
  Fields = HasFields settings.policy settings.guess request now responses

  pub serve-fields : (number : ℕ) (field : Encoded) → Answers (lookup.Serve number field) → Fields
  serve-fields number field (inl is) = (decisions.Serve, is.place, is.found, λ same. (cc))
  serve-fields number field (inr is) = (decisions.ServeStale, is.place, is.found, λ same. (cc))

  pub meanwhile-fields : (number : ℕ) (field : Encoded) → Answers (lookup.ServeAndRevalidate number field) → Fields
  meanwhile-fields number field is = (decisions.ServeAndRevalidate, is.place, is.found, λ same. (cc))

  -- no reply by a number: none is found by it, or the request isn't evaluated
  abbrev IsNoReply : ℕ → Type 0
  IsNoReply number = (numbered number responses ≡ None) ⊎ (¬ (IsForCache request))

  alone-first : (number : ℕ) (decision : Decision) (line : Field) → IsFoundBy number decision line → IsNoReply number
      → (given : First) → IsAlone request given → IsFirst settings request now responses given
  alone-first number decision line by missing first.Ask is = (is, inr (not-shown by.shown missing))
  alone-first number decision line by missing first.Unavailable is = inr (is, inr (not-shown by.shown missing))
  alone-first number decision line by missing given none = absurd none

  pub serve-shows : (number : ℕ) (field : Encoded) → Answers (lookup.Serve number field) → (reply : Reply)
      → Replies number reply → IsFirst settings request now responses (first.Reply reply)
  serve-shows number field is reply replies = elim is [
    | inl by ↦ inl (shows number decisions.Serve (field_of field) by reply replies)
    | inr by ↦ inr (shows number decisions.ServeStale (field_of field) by reply replies)
  ]

  pub meanwhile-shows : (number : ℕ) (field : Encoded) → Answers (lookup.ServeAndRevalidate number field)
      → (reply : Reply) → Replies number reply → IsFirst settings request now responses (first.ReplyAndValidate reply)
  meanwhile-shows number field is = shows number decisions.ServeAndRevalidate (field_of field) is

  pub serve-alone : (number : ℕ) (field : Encoded) → Answers (lookup.Serve number field) → IsNoReply number
      → (given : First) → IsAlone request given → IsFirst settings request now responses given
  serve-alone number field is none given alone = elim is [
    | inl by ↦ alone-first number decisions.Serve (field_of field) by none given alone
    | inr by ↦ alone-first number decisions.ServeStale (field_of field) by none given alone
  ]

  pub meanwhile-alone : (number : ℕ) (field : Encoded) → Answers (lookup.ServeAndRevalidate number field)
      → IsNoReply number → (given : First) → IsAlone request given → IsFirst settings request now responses given
  meanwhile-alone number field is = alone-first number decisions.ServeAndRevalidate (field_of field) is

  -- ---- if the origin fails

  error-fields : (found : Lookup) → Answers found → (number : ℕ) → number_on_error found ≡ Some number → Fields
  error-fields (lookup.Serve other field) is number same = serve-fields other field is
  error-fields (lookup.ServeAndRevalidate other field) is number same = meanwhile-fields other field is
  error-fields (lookup.ValidateOrServe other fields) is number same =
      (decisions.RevalidateOrServe, is.place, is.found, λ same. (cc))
  error-fields found is number same = absurd (none-some same)

  pub error-none : (found : Lookup) → Answers found → number_on_error found ≡ None
      → IsNoneOnError settings request now responses
  error-none (lookup.Validate other fields) is same = inr (inr (is.place, inl is.found))
  error-none lookup.Unavailable (inl is) same = inr (inr (is.0, inr is.1))
  error-none lookup.Unavailable (inr is) same = inl is.0
  error-none lookup.Forward is same = inl is.0
  error-none found is same = absurd (none-some (sym same))

  -- what is decided about a response that may be served if the origin failed
  abbrev Serves : Decision → Type 0
  Serves decision =
      (decision ≡ decisions.Serve) ⊎ (decision ≡ decisions.ServeStale) ⊎ (decision ≡ decisions.ServeAndRevalidate)
      ⊎ (decision ≡ decisions.RevalidateOrServe)

  abbrev Found : ℕ → Type 0
  Found number = (decision : Decision) × (line : Field) × IsFoundBy number decision line × Serves decision

  error-found : (found : Lookup) → Answers found → (number : ℕ) → number_on_error found ≡ Some number → Found number
  error-found (lookup.Serve other field) is number same = subst Found (same_Some other number same) (elim is [
    | inl by ↦ (decisions.Serve, field_of field, by, inl refl)
    | inr by ↦ (decisions.ServeStale, field_of field, by, inr (inl refl))
  ])
  error-found (lookup.ServeAndRevalidate other field) is number same =
      subst Found (same_Some other number same) (decisions.ServeAndRevalidate, field_of field, is, inr (inr (inl refl)))
  error-found (lookup.ValidateOrServe other fields) is number same = subst Found (same_Some other number same) (
    decisions.RevalidateOrServe,
    age_of_stored is.found.selected.response now,
    record { place = is.place; found = is.found; shown = is.shown; age = refl },
    inr (inr (inr refl)),
  )
  error-found found is number same = absurd (none-some same)

  pub error-reply : (found : Lookup) → Answers found → (number : ℕ) → number_on_error found ≡ Some number
      → (reply : Result (Option Reply) AllocError)
      → IfOk reply (λ shown. MatchOption shown (IsNoReply number) (Replies number))
      → IsOnError settings request now responses reply
  error-reply found answers number same (Ok None) missing =
      inr (inl (not-shown (error-found found answers number same).2.shown missing))
  error-reply found answers number same (Ok (Some reply)) replies =
      let is = error-found found answers number same in (is.0, shows number is.0 is.1 is.2 reply replies, is.3)
  error-reply found answers number same (Err error) lost = error-fields found answers number same

-- ---- after a 304

module _ (settings : Settings) (key : List ℕ) (request : Request) (update : LineMap) (exchange : Exchange)
    (old new : Kept) where
  pub shows-after : (number : ℕ)
      → IsRestored settings.policy key request update exchange old.contents new.contents number → (reply : Reply)
      → Replies settings request exchange.received (responses_at key new.contents) number reply
      → IsShownAfter settings key request update exchange old new reply
  shows-after number restored reply is =
      let shown = some-and (numbered number (responses_at key new.contents))
      (λ stored. IsReplyTo request exchange.received stored reply) is.1 in
      let same : number ≡ reply.number = sym (shown.2.number
      ∙ (Has-numbered (responses_at key new.contents) number shown.0 shown.1).1) in
      record {
        restored = subst (IsRestored settings.policy key request update exchange old.contents new.contents) same
            restored;
        evaluated = is.0;
        replies = subst (λ (n : ℕ). IsSomeAnd (numbered n (responses_at key new.contents))
            (λ stored. IsReplyTo request exchange.received stored reply)) same is.1;
      }
