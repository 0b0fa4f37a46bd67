-- What is stored of a response that passed on.
use Rattle.std.proofs.Common.{◌∷◌, ◌≡◌, ◌⊎◌, Bool, false, List, None, Option, refl, Some, subst, sym, true, ℕ}
use Rattle.std.{proofs.Common.{Err, inl, inr, Ok, Result}, specs.{Bool.MatchBool, declared.alloc.AllocError.AllocError}}
use Rattle.cache_rules.specs.declared.{stored.StoredResponse.StoredResponse, storing.Reception.TheVariants.Complete}
use Rattle.cache_store.specs.{Changes.{FitsAlone, IsTooSmallToStore, IsToStore}, Contents.size_at}
use Rattle.{cache_pass.specs.Effects.{DoAll, Kept, Settings}, cache_store.specs.History.{Call.Arrived, History, Step}}
use Rattle.cache_pass.specs.Keeping.{AreDescribing, IsKept, IsLeft, IsNumbered, IsPast}

pub past-or-late : (Past Late : Type 0) (late : Bool) → ¬ Past → MatchBool late Late (¬ Late)
    → MatchBool late (Past ⊎ Late) (¬ (Past ⊎ Late))
past-or-late Past Late true current is = inr is
past-or-late Past Late false current isnt = λ either. elim either [
  | inl past ↦ current past
  | inr late ↦ isnt late
]

module _ (settings later : Settings) (same : later ≡ settings) (key : List ℕ) (came : StoredResponse) (clock : ℕ)
    (old described new : Kept) (fine : ¬ (IsPast key came clock old)) (before : History)
    (describing : AreDescribing settings key came before) (describes : DoAll settings before old described)
    (step : Step later.policy later.limits (Arrived key came Complete) described.contents new.contents)
    (unnoted : new.removals ≡ described.removals) where
  keeps-as : (number : Result (Option ℕ) AllocError) → IsNumbered later key came described new number
      → (calls : History) × IsKept settings key came clock old new calls number
  keeps-as number named = (
    Arrived key came Complete ∷ before,
    subst (λ (s : Settings). IsKept s key came clock old new (Arrived key came Complete ∷ before) number) same (inr (
      fine,
      record {
        before = before;
        describing = describing;
        described = described;
        describes = subst (λ (s : Settings). DoAll s before old described) (sym same) describes;
        stores = record { step = step; noted = unnoted };
        named = named;
        all = refl;
      },
    )),
  )

  pub keeps : (number : Option ℕ) → ((n : ℕ) → number ≡ Some n → IsNumbered later key came described new (Ok (Some n)))
      → (number ≡ None → IsNumbered later key came described new (Ok None))
      → (calls : History) × IsKept settings key came clock old new calls (Ok number)
  keeps None named unfit = keeps-as (Ok None) (unfit refl)
  keeps (Some n) named unfit = keeps-as (Ok (Some n)) (named n refl)

  pub keeps-full : IsTooSmallToStore came → IsLeft settings key came described new
      → (calls : History) × IsKept settings key came clock old new calls (Ok None)
  keeps-full small left = keeps-as (Ok None) (inr (small, left))

  pub keeps-none : (error : AllocError) → IsToStore later.policy came Complete
      × FitsAlone later.limits 1 (size_at key came) → IsLeft settings key came described new → (calls : History)
      × IsKept settings key came clock old new calls (Err error)
  keeps-none error fit left = keeps-as (Err error) (fit.0, fit.1, left)
