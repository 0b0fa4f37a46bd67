-- What a validating response leaves.
use Rattle.std.proofs.Common.{[], ◌++◌, ◌+◌, ◌<◌, ◌∷◌, ◌≡◌, ap, arith, get_or, length, List, remove, subst, suc, sym, ℕ}
use Rattle.{cache_policy.specs.{Policies.Policy, Requests.Request}, std.{proofs.Common.Some, specs.List.Contains}}
use Rattle.std.proofs.{Common.{◌∙◌, drop, None, refl, take}, lemmas.Option.{get_or_from_slice_get, slice_get_within}}
use Rattle.std.proofs.lemmas.List.{Edits.length-remove, Elements.All-take}
use Rattle.std.proofs.lemmas.List.Elements.{All-append, All-contains, All-contains_itself, All-drop, Contains-get_or}
use Rattle.{headers.specs.LineMap.{Field, LineMap}, cache_store.specs.Contents.{Contents, with_target, without}}
use Rattle.cache_rules.specs.{declared.freshening.Exchange.Exchange, Fields.IsTooSmallFor, Identifying.IsUpdatedAnswer}
use Rattle.cache_rules.specs.{Freshening.{IsFreshened, IsFreshenedAs, IsReusable}, Stored.fields_of_stored}
use Rattle.cache_rules.specs.declared.stored.StoredResponse.{StoredResponse}
use Rattle.cache_store.specs.Changes.{IsLetGo, IsRefreshed, IsRefreshedByHead, IsRefreshedTo, IsRestored, IsUnrefreshed}
use Rattle.cache_store.specs.{Updates.{AreLeft, Becomes, IsOneTooSmallFor}, Numbers.renumbered, Contents.responses_at}
use Rattle.cache_store.specs.declared.{updating.By.TheVariants.{Head, NotModified}, freshening.Refreshed.Refreshed}
use Rattle.cache_store.specs.declared.freshening.Refreshed.TheVariants.{Absent, Once, Stored, Unchanged}
use Rattle.cache_rules.specs.declared.freshening.Freshened.TheVariants as outcomes

-- the place of the response that answers
pub within : (request : Request) (update : LineMap) (all : List StoredResponse) (place : ℕ)
    → IsUpdatedAnswer request update all (Some place) → place < length all
within request update all place answers = slice_get_within all place answers.1.response answers.1.at

-- the same in what was taken out
pub within_taken : (request : Request) (update : LineMap) (all given taken : List StoredResponse) (place : ℕ)
    → given ≡ all → taken ≡ all → IsUpdatedAnswer request update given (Some place) → place < length taken
within_taken request update all given taken place is_given is_taken answers =
    rw (← is_taken) at (within request update all place (rw is_given at answers))

-- one less is left
pub one_less : (taken these : List StoredResponse) (place : ℕ) → place < length taken → these ≡ remove taken place
    → length these + 1 ≡ length taken
one_less taken these place inside is_these = omega (arith, ap length is_these, length-remove taken place inside)

-- the response at the place is too small, or one of the others
module _ (all taken : List StoredResponse) (place : ℕ) (fields : List Field) (is_taken : taken ≡ all) where
  pub one_too_small : (one : StoredResponse) → place < length all → one ≡ get_or taken place one
      → IsTooSmallFor one.response fields → IsOneTooSmallFor all fields
  one_too_small one inside at small = record {
    stored = one;
    among = rw (← (at ∙ ap (λ l. get_or l place one) is_taken)) at (Contains-get_or all place one inside);
    small = small;
  }

  pub other_too_small : (rest : List StoredResponse) → rest ≡ remove taken place → IsOneTooSmallFor rest fields
      → IsOneTooSmallFor all fields
  other_too_small rest is_rest some =
      let itself = All-contains_itself all in
      record {
        stored = some.stored;
        among = All-contains (Contains all) (remove all place) some.stored
            (All-append (Contains all) (take place all) (drop (suc place) all)
            (All-take (Contains all) place all itself) (All-drop (Contains all) (suc place) all itself))
            (subst (λ l. Contains l some.stored) (is_rest ∙ ap (λ l. remove l place) is_taken) some.among);
        small = some.small;
      }

-- ---- another number

pub freshened_numbered : (old : StoredResponse) (update : LineMap) (exchange : Exchange) (n : ℕ) (fresh
    : StoredResponse) → IsFreshened old update exchange fresh → IsFreshened old update exchange (renumbered n fresh)
freshened_numbered old update exchange n fresh is = assumption is

module _ (policy : Policy) (stored : LineMap) (request : Request) (update : LineMap) (n : ℕ) (fresh : StoredResponse)
  where
    reusable_numbered : IsReusable policy stored request update fresh
        → IsReusable policy stored request update (renumbered n fresh)
    reusable_numbered is = (is.0, assumption is.1)

-- the names are those of the code
module _ (policy own : Policy) (target : List ℕ) (request : Request) (update : LineMap) (exchange : Exchange) (old new
    other : Contents)
    (taken rest left : List StoredResponse) (place : ℕ)
    (answers : IsUpdatedAnswer request update (responses_at target old) (Some place))
    (d fresh : StoredResponse) (is_own : own ≡ policy) (is_other : other ≡ without target old)
    (is_taken : taken ≡ responses_at target old) (at : d ≡ get_or taken place d) (is_rest : rest ≡ remove taken place)
    (are_left : AreLeft (λ one. Becomes own request update exchange one NotModified) rest left)
  where
    is_d : d ≡ answers.1.response
    is_d = at ∙ ap (λ l. get_or l place d) is_taken
        ∙ get_or_from_slice_get (responses_at target old) place answers.1.response d answers.1.at

    refreshed : (kept : StoredResponse) → IsFreshened d update exchange kept
        → IsRefreshedTo policy target request update exchange old new kept left
    refreshed kept freshened = record {
      place = place;
      identified = answers.0;
      selected = answers.1;
      freshened = rw is_d at freshened;
      beside = rw (is_rest ∙ ap (λ l. remove l place) is_taken) at (rw is_own at are_left);
    }

    module _ (n : ℕ) (kept : StoredResponse) (is_kept : kept ≡ renumbered n fresh) where
      pub restored : IsFreshenedAs own d request update exchange (outcomes.Stored fresh)
          → new ≡ (target, left ++ kept ∷ []) ∷ other → IsRestored policy target request update exchange old new n
      unfolding refreshed
      restored freshened put = record {
        fresh = renumbered n fresh;
        left = left;
        refreshed = refreshed (renumbered n fresh) (freshened_numbered d update exchange n fresh freshened.1);
        reusable = reusable_numbered policy _ request update n fresh (rw is_d at (rw is_own at freshened.2));
        at = refl;
        put = put ∙ ap (λ c. (target, left ++ kept ∷ []) ∷ c) is_other
            ∙ ap (λ s. (target, left ++ s ∷ []) ∷ without target old) is_kept;
      }

      pub let_go : IsFreshenedAs own d request update exchange (outcomes.Once fresh)
          → new ≡ with_target target left other → IsLetGo policy target request update exchange old new kept
      unfolding refreshed
      let_go freshened put = subst (IsLetGo policy target request update exchange old new) (sym is_kept) (record {
        left = left;
        refreshed = refreshed (renumbered n fresh) (freshened_numbered d update exchange n fresh freshened.1);
        unusable = λ is. freshened.2 (subst (λ one. IsReusable own (fields_of_stored one) request update fresh)
            (sym is_d)
            (rw (← is_own) at (reusable_numbered policy _ request update fresh.number (renumbered n fresh) is)));
        put = put ∙ ap (λ c. with_target target left c) is_other;
      })

    -- the response that answers is updated, so it doesn't stay as it was
    pub not_unchanged : {other_fresh : StoredResponse} → IsFreshenedAs own d request update exchange (outcomes.Unchanged
        other_fresh) → ⊥
    not_unchanged freshened = freshened.0 (rw (← is_d) at answers.1.is.1)

-- what a 304 that updates none leaves
pub none_refreshed : (policy : Policy) (target : List ℕ) (request : Request) (update : LineMap) (exchange : Exchange)
    (contents : Contents) → IsUpdatedAnswer request update (responses_at target contents) None → (answer : Refreshed)
    → IsUnrefreshed request (responses_at target contents) answer
    → IsRefreshed policy target request update exchange contents contents answer
none_refreshed policy target request update exchange contents none Absent is = (is, refl)
none_refreshed policy target request update exchange contents none Unchanged is = (none, is, refl)
none_refreshed policy target request update exchange contents none other is = absurd is

-- what a HEAD leaves
pub head_refreshed : (policy own : Policy) (target : List ℕ) (request : Request) (update : LineMap)
    (exchange : Exchange) (old new other : Contents) (taken left : List StoredResponse) → own ≡ policy → other ≡ without
    target old → taken ≡ responses_at target old → AreLeft (λ one. Becomes own request update exchange one Head)
    taken left → new ≡ with_target target left other → IsRefreshedByHead policy target request update exchange old new
head_refreshed policy own target request update exchange old new other
    taken left is_own is_other is_taken are_left put = let put = put ∙ ap (λ c. with_target target left c) is_other in
    record { left = left; each = rw is_taken at (rw is_own at are_left); put = put }
