-- A handle that is opened with what was made.
use Rattle.std.proofs.Common.{◌≡◌, ◌⊎◌, inl, inr, Option, Some, None, Result, Ok, Err, IsOkAnd, MatchResult, subst, sym}
use Rattle.{c_parts.specs.declared.status.Failure.{Failure, TheVariants.Memory}, c_handles.specs.Handles.Opens}
use Rattle.c_handles.specs.declared.held.Held.{Held}

-- what holds of what was made, and of no memory, holds of what the handle is opened with
pub opened : (P : Result Held Failure → Type 0) (made : Result Held Failure) (old new : Option Held)
    (answer : Result (Unit {0}) Failure) → P made → P (Err Memory)
    → Opens (λ given. (given ≡ made) ⊎ (given ≡ Err Memory)) old new answer → Opens P old new answer
opened P made None (Some new) answer holds memory (is, inl same) = (is, subst P (sym same) holds)
opened P made None (Some new) answer holds memory (is, inr none) = absurd (cc none)
opened P made None None answer holds memory (failure, is, inl same) = (failure, is, subst P (sym same) holds)
opened P made None None answer holds memory (failure, is, inr none) = (failure, is, subst P (sym none) memory)
opened P made (Some old) new answer holds memory stays = stays

-- what holds of what was read, and is held by a call, holds of what was made
pub mapped : {X : Type 0} {post : X → Held → Type 0} (Q : Result X Failure → Type 0) (P : Result Held Failure → Type 0)
    (hold : X → Held) (read : Result X Failure) (made : Result Held Failure)
    → ((value : X) (held : Held) → post value held → held ≡ hold value)
    → ((value : X) → Q (Ok value) → P (Ok (hold value))) → ((failure : Failure) → Q (Err failure) → P (Err failure))
    → Q read → MatchResult read (λ value. IsOkAnd made (post value)) (λ failure. made ≡ Err failure) → P made
mapped Q P hold (Ok value) (Ok held) says ok err holds is =
    subst (λ (it : Held). P (Ok it)) (sym (says value held is)) (ok value holds)
mapped Q P hold (Ok value) (Err failure) says ok err holds is = absurd is
mapped Q P hold (Err failure) made says ok err holds is = subst P (sym is) (err failure holds)
