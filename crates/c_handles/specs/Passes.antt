-- Calls on the handles of a cache and of a pass.
use Rattle.std.specs.{Prelude.{◌≡◌, ℕ, List, Option, Some, None, Result, Ok, Err}, Global.Vec}
use Rattle.{c_parts.specs.declared.status.Failure.{Failure, TheVariants.{Refused, Absent}}, c_pass.specs.Steps.Copies}
use Rattle.c_pass.specs.{Steps.{FailsBegin, IsBegun}, declared.held.{Shared.Shared, Stepped.Stepped}}
use Rattle.c_pass.specs.declared.{reading.CacheRequest.CacheRequest, telling.PassFacts.PassFacts}
use Rattle.c_pass.specs.{Status.IsStatusLine, Validating.ShowsValidation}
use Rattle.c_handles.specs.declared.held.Held.{Held}
use Rattle.c_handles.specs.declared.held.Held.TheVariants as held

-- a handle is made with a cache of which P holds
abbrev pub IsCacheHeld : (Result Shared Failure → Type 0) → Result Held Failure → Type 0
IsCacheHeld P (Ok (held.Cache shared)) = P (Ok shared)
IsCacheHeld P (Ok other) = ⊥
IsCacheHeld P (Err failure) = P (Err failure)

-- An open handle of a cache stays open, and this becomes of the cache. Any other stays as it was, and the answer is
-- `Absent`.
abbrev pub OnCache : {V : Type 0} → (Shared → Shared → Result V Failure → Type 0) → (old new : Option Held)
    → Result V Failure → Type 0
OnCache P (Some (held.Cache shared)) (Some (held.Cache kept)) answer = P shared kept answer
OnCache P (Some (held.Cache shared)) other answer = ⊥
OnCache P old new answer = (answer ≡ Err Absent) × (new ≡ old)

-- the same of a pass
abbrev pub OnPass : {V : Type 0} → (Stepped → Stepped → Result V Failure → Type 0) → (old new : Option Held)
    → Result V Failure → Type 0
OnPass P (Some (held.Pass stepped)) (Some (held.Pass passed)) answer = P stepped passed answer
OnPass P (Some (held.Pass stepped)) other answer = ⊥
OnPass P old new answer = (answer ≡ Err Absent) × (new ≡ old)

-- the two handles stay open
abbrev pub IsDone : {V : Type 0} → (Shared → Stepped → Result V Failure → Type 0) → (new after : Option Held)
    → Result V Failure → Type 0
IsDone P (Some (held.Cache kept)) (Some (held.Pass passed)) answer = P kept passed answer
IsDone P new after answer = ⊥

-- The open handles of a cache and of a pass stay open, and this becomes of the two. Any others stay as they were, and
-- the answer is `Absent`.
abbrev pub OnBoth : {V : Type 0} → (Shared → Stepped → Shared → Stepped → Result V Failure → Type 0)
    → (old new before after : Option Held) → Result V Failure → Type 0
OnBoth P (Some (held.Cache shared)) new (Some (held.Pass stepped)) after answer =
    IsDone (P shared stepped) new after answer
OnBoth P old new before after answer = (answer ≡ Err Absent) × (new ≡ old) × (after ≡ before)

module _ (request : CacheRequest) (now : ℕ) where
  -- the closed handle of a pass is opened with it, or stays closed
  abbrev pub BeginsIn : (before kept : Shared) → Option Held → Result PassFacts Failure → Type 0
  BeginsIn before kept (Some (held.Pass stepped)) (Ok facts) = IsBegun request now before kept stepped facts
  BeginsIn before kept None (Err failure) = FailsBegin request now before kept failure
  BeginsIn before kept after answer = ⊥

  -- The closed handle of a pass is opened with a pass through an open cache. `Refused`, and nothing changes, if the
  -- handle of the pass is open.
  abbrev pub BeginsThrough : (old new before after : Option Held) → Result PassFacts Failure → Type 0
  BeginsThrough old new (Some had) after answer = (answer ≡ Err Refused) × (new ≡ old) × (after ≡ Some had)
  BeginsThrough (Some (held.Cache shared)) (Some (held.Cache kept)) None after answer =
      BeginsIn shared kept after answer
  BeginsThrough (Some (held.Cache shared)) other None after answer = ⊥
  BeginsThrough old new None after answer = (answer ≡ Err Absent) × (new ≡ old) × (after ≡ None)

-- the content that the pass shows is copied; `Absent` also without a pass
abbrev pub CopiesContent : (from : ℕ) (old new : List ℕ) (written : ℕ) → Option Stepped → Result (Unit {0}) Failure
    → Type 0
CopiesContent from old new written None answer = answer ≡ Err Absent
CopiesContent from old new written (Some stepped) answer = Copies from old new written stepped.shown answer

-- the field lines that the last step of a pass takes
abbrev pub ShowsFields : Option Stepped → Result (List ℕ) Failure → Type 0
ShowsFields None answer = answer ≡ Err Absent
ShowsFields (Some stepped) answer = answer ≡ Ok stepped.text.items

-- the field lines of the request by which what it has sent stale is validated
abbrev pub ShowsItsValidation : Option Stepped → Result (Vec ℕ) Failure → Type 0
ShowsItsValidation None answer = answer ≡ Err Absent
ShowsItsValidation (Some stepped) answer = ShowsValidation stepped.pass answer

-- the field line that says what it comes to
abbrev pub ShowsItsStatus : List ℕ → Option Stepped → Result (Vec ℕ) Failure → Type 0
ShowsItsStatus name None answer = answer ≡ Err Absent
ShowsItsStatus name (Some stepped) answer = IsStatusLine name stepped answer
