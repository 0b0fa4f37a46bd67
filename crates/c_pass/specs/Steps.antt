-- The steps of passes, by what a caller hands in: each is the step of `cache_pass` and tells of it.
use Rattle.std.specs.Prelude.{◌≡◌, ◌≢◌, ◌⊎◌, ◌+◌, ◌++◌, ◌&&◌, ◌<◌, ℕ, Bool, true, false, List, [], length, take, drop}
use Rattle.std.specs.Prelude.{Option, Some, None, IsSome, IsSomeAnd, Result, Ok, Err, IfOk, MatchResult, is_some}
use Rattle.std.specs.Prelude.{alloc_error, if◌then◌else◌, nat_le, option_map, unwrap_or}
use Rattle.{std.specs.declared.alloc.AllocError.AllocError, http.specs.StatusCode.IsStatusCode}
use Rattle.{http_header.specs.{FieldValue.FieldValue, HeaderMap.Entries}, headers_section.specs.Section.Holds}
use Rattle.cache_rules.specs.declared.storing.Reception.{Reception, TheVariants.{Complete, Incomplete}}
use Rattle.{cache_store.specs.History.Call.Looked, cache_pass.specs.Effects.{Does, kept_of, settings_of, stored_at}}
use Rattle.cache_pass.specs.declared.{pass.{Pass.Pass, Phase.TheVariants.Began}, queue.Queue.Queue}
use Rattle.cache_pass.specs.declared.{replying.{First.First, Reply.Reply}, revalidating.Next.Next}
use Rattle.cache_pass.specs.{Passes.{IsNotPassing, IsSameRequest, asked_of, key_of, request_of_pass}, Queue.Enters}
use Rattle.cache_pass.specs.{Queue.is_open, Steps.{HasBegun, HasCome, HasEnded, HasFailed}}
use Rattle.{c_decisions.specs.StatusCodes.IsStatusOf, c_parts.specs.{Endings.{IsWritten, done}, SectionMap.IsMapOf}}
use Rattle.c_parts.specs.declared.status.Failure.{Failure, TheVariants.{Memory, Absent}}
use Rattle.c_pass.specs.{Outcomes.{failed_outcome, first_outcome, next_outcome}, Caches.IsSameBeside, Waiting.IsAhead}
use Rattle.c_pass.specs.{Waiting.{IsPlaced, IsSettled, IsUnplaced}, declared.held.Place.TheVariants.{Apart, Waiting}}
use Rattle.c_pass.specs.{Status.{IsStanding, with_status}, declared.status.Course.Course}
use Rattle.c_pass.specs.declared.{held.{Shared.Shared, Stepped.Stepped}, outcome.PassOutcome.PassOutcome}
use Rattle.c_pass.specs.declared.{reading.CacheRequest.CacheRequest, telling.PassFacts.PassFacts}
use Rattle.c_pass.specs.{Reading.{FailsRequest, IsRequest, asked_by}, Telling.{TakesMemory, is_head, outcome_told}}
use Rattle.c_pass.specs.Telling.{waiting}

-- the outcome is told, and the pass shows the content of the stored response that it names in the cache
abbrev pub Tells : (now : ℕ) → Shared → Stepped → PassOutcome → PassFacts → Type 0
Tells now shared stepped outcome facts =
    (facts, stepped.text.items, stepped.shown)
    ≡ outcome_told (stored_at (key_of stepped.pass) shared.cache) (is_head stepped.pass) now outcome

-- what a pass has kept of the content that came, if it may still be stored
abbrev pub content_of : Stepped → Option (List ℕ)
content_of stepped = option_map (λ content. content.items) stepped.content

-- the pass shows no content, and takes no field lines
pub record IsSilent (stepped : Stepped) : Type 0 where
  pub shown : stepped.shown ≡ None
  pub text : stepped.text.items ≡ []

-- Memory ran out for what is told of the outcome of a first step, or to enter the queue.
abbrev pub IsUnstarted : Pass → (now : ℕ) → (old new : Queue) → PassOutcome → Type 0
IsUnstarted pass now old new outcome = (TakesMemory outcome × (new ≡ old)) ⊎ IsUnplaced pass now old new

-- the first step of a pass

module _ (now : ℕ) (old new : Shared) (pass : Pass) (stepped : Stepped) where
  -- It is made, and told. If the pass waited for another, this was to become of it when it began.
  pub record IsStarted (earlier : Option Course) (facts : PassFacts) : Type 0 where
    pub first : First
    pub begun : HasBegun pass old.cache now stepped.pass new.cache (Ok first)
    pub tells : Tells now new stepped (first_outcome first) facts
    pub standing : IsStanding old.guess now new.cache stepped.pass first earlier stepped.standing
    pub content : stepped.content ≡ None
    pub place : IsPlaced stepped.pass now old.queue new.queue stepped.place
    pub beside : IsSameBeside old new

  -- The origin is asked for the same, so the pass that would ask is none yet: there is a new one for its request, which
  -- waits. What is stored was looked up, and that is all.
  pub record IsWaiting : Type 0 where
    pub asking : Pass
    pub first : First
    pub begun : HasBegun pass old.cache now asking new.cache (Ok first)
    pub number : ℕ
    pub ahead : IsAhead old.queue asking now (Some number)
    pub place : stepped.place ≡ Waiting number
    pub same : IsSameRequest asking stepped.pass
    pub began : stepped.pass.phase ≡ Began
    pub standing : IsStanding old.guess now new.cache asking first None stepped.standing
    pub silent : IsSilent stepped
    pub content : stepped.content ≡ None
    pub queue : new.queue ≡ old.queue
    pub beside : IsSameBeside old new

-- a pass begins

module _ (request : CacheRequest) (now : ℕ) (old new : Shared) where
  -- a new pass for the request begins, or waits
  pub record IsBegun (stepped : Stepped) (facts : PassFacts) : Type 0 where
    pub fields : Entries FieldValue
    pub is_request : IsRequest request fields
    pub pass : Pass
    pub key : key_of pass ≡ request.target.now
    pub asks : request_of_pass pass ≡ asked_by request fields
    pub begins : (IsAhead old.queue stepped.pass now None × IsStarted now old new pass stepped None facts)
        ⊎ (IsWaiting now old new pass stepped × (facts ≡ waiting))

  -- What is stored was looked up, and that is all. It may be that others wait for the request, until their time is
  -- over.
  pub record IsLookedUp : Type 0 where
    pub does : Does (settings_of old.cache) (Looked request.target.now) (kept_of old.cache) (kept_of new.cache)
    pub settings : settings_of new.cache ≡ settings_of old.cache
    pub queue : (new.queue ≡ old.queue)
        ⊎ ((number : Result (Option ℕ) AllocError) × Enters request.target.now now old.queue new.queue number)
    pub beside : IsSameBeside old new

  -- the request can't be parsed, or memory ran out, at the latest after a lookup
  abbrev pub FailsBegin : Failure → Type 0
  FailsBegin failure =
      (FailsRequest request failure × (new ≡ old))
      ⊎ ((failure ≡ Memory) × ((fields : Entries FieldValue) × IsRequest request fields)
      × ((new ≡ old) ⊎ IsLookedUp))

  abbrev pub Begins : Result (Stepped × PassFacts) Failure → Type 0
  Begins (Ok begun) = IsBegun begun.0 begun.1
  Begins (Err failure) = FailsBegin failure

-- it goes on

abbrev pub reception_of : Bool → Reception
reception_of true = Complete
reception_of false = Incomplete

-- What is stored of the content that was kept: all of it, if that is the whole, and memory didn't run out for it.
abbrev pub IsContentStored : Option (List ℕ) → (whole lost : Bool) → List ℕ → Reception → Type 0
IsContentStored kept true false content reception = (kept ≡ Some content) × (reception ≡ Complete)
IsContentStored kept true true content reception = reception ≡ Incomplete
IsContentStored kept false lost content reception = (lost ≡ false) × (reception ≡ Incomplete)

-- a failed call has changed nothing
abbrev pub IsUnchanged : Shared → Stepped → Shared → Stepped → Type 0
IsUnchanged old before new after = (new ≡ old) × (after ≡ before)

module _ (now : ℕ) (old : Shared) (before : Stepped) (new : Shared) (after : Stepped) where
  -- the origin isn't asked
  abbrev pub IsNotAsking : Failure → Type 0
  IsNotAsking failure = (failure ≡ Absent) × (asked_of before.pass.phase ≡ None)

  -- The step is done with this result. Memory ran out for it, or for what is told of its outcome.
  abbrev pub IsUntold : {X : Type 0} → (X → PassOutcome) → Result X AllocError → Failure → Type 0
  IsUntold outcome_of result failure =
      (failure ≡ Memory) × IfOk result (λ it. TakesMemory (outcome_of it)) × IsSilent after

  -- `begin`, after a wait

  -- the pass waited for a request for which others may wait still, or may not
  pub record HasWaited (may : Bool) : Type 0 where
    pub number : ℕ
    pub place : before.place ≡ Waiting number
    pub may_wait : is_open old.queue number now ≡ may

  abbrev pub IsNotWaiting : Type 0
  IsNotWaiting = ((number : ℕ) → before.place ≢ Waiting number) ⊎ (before.pass.phase ≢ Began)

  -- its first step is made, and memory ran out for it, for what is told of it, or to enter the queue
  pub record IsStartLost : Type 0 where
    pub first : Result First AllocError
    pub begun : HasBegun before.pass old.cache now after.pass new.cache first
    pub lost : MatchResult first (λ it. IsUnstarted after.pass now old.queue new.queue (first_outcome it))
        (λ error. new.queue ≡ old.queue)
    pub silent : IsSilent after
    pub content : after.content ≡ None
    pub place : after.place ≡ Apart
    pub beside : IsSameBeside old new

  abbrev pub Resumes : Result PassFacts Failure → Type 0
  Resumes (Ok facts) =
      (HasWaited true × (facts ≡ waiting) × IsUnchanged old before new after)
      ⊎ (HasWaited false × IsStarted now old new before.pass after (Some before.standing.course) facts)
  Resumes (Err failure) =
      ((failure ≡ Absent) × IsNotWaiting × IsUnchanged old before new after)
      ⊎ ((failure ≡ Memory) × HasWaited false × IsStartLost)

  module _ (status : ℕ) (section : List ℕ) where
    -- `came`, with the response
    pub record IsCame (next : Result Next AllocError) : Type 0 where
      pub response : Entries FieldValue
      pub is_status : IsStatusCode status
      pub holds : Holds section response
      pub come : HasCome before.pass old.cache status response now after.pass new.cache next
      pub content : content_of after ≡ Some []
      pub most : after.most ≡ old.most
      pub standing : after.standing ≡ with_status status before.standing
      pub place : IsSettled after.pass.phase before.place old.queue new.queue after.place
      pub beside : IsSameBeside old new

    -- the failure of parsing it
    abbrev pub FailsResponse : Failure → Type 0
    FailsResponse failure = IsStatusOf status (Err failure) ⊎ IsMapOf section (Err failure)

    abbrev pub Comes : Result PassFacts Failure → Type 0
    Comes (Ok facts) = (next : Next) × IsCame (Ok next) × Tells now new after (next_outcome next) facts
    Comes (Err failure) =
        ((FailsResponse failure ⊎ IsNotAsking failure) × IsUnchanged old before new after)
        ⊎ ((next : Result Next AllocError) × IsCame next × IsUntold next_outcome next failure)

  -- `failed`
  pub record IsFailed (found : Result (Option Reply) AllocError) : Type 0 where
    pub failed : HasFailed before.pass old.cache now after.pass new.cache found
    pub content : after.content ≡ before.content
    pub standing : after.standing ≡ before.standing
    pub place : IsSettled after.pass.phase before.place old.queue new.queue after.place
    pub beside : IsSameBeside old new

  abbrev pub Fails : Result PassFacts Failure → Type 0
  Fails (Ok facts) = (found : Option Reply) × IsFailed (Ok found) × Tells now new after (failed_outcome found) facts
  Fails (Err failure) =
      (IsNotAsking failure × IsUnchanged old before new after)
      ⊎ ((found : Result (Option Reply) AllocError) × IsFailed found × IsUntold failed_outcome found failure)

  -- it ends

  module _ (is_complete : Bool) where
    -- `ended`, with the content that was kept; if none was, as if not all of it came
    pub record IsEnded (number : Result (Option ℕ) AllocError) : Type 0 where
      pub ended : HasEnded before.pass old.cache (unwrap_or (content_of before) [])
          (reception_of (is_complete && is_some before.content)) now after.pass new.cache number
      pub content : after.content ≡ None
      pub place : IsSettled after.pass.phase before.place old.queue new.queue after.place
      pub shown : after.shown ≡ before.shown
      pub text : after.text ≡ before.text
      pub standing : after.standing ≡ before.standing
      pub beside : IsSameBeside old new

    -- `Absent` if no response is forwarded that is to be stored
    abbrev pub Ends : Result (Option ℕ) Failure → Type 0
    Ends (Ok number) = IsEnded (Ok number)
    Ends (Err failure) =
        ((failure ≡ Absent) × IsNotPassing before.pass.phase × IsUnchanged old before new after)
        ⊎ ((failure ≡ Memory) × IsEnded (Err alloc_error))

-- its content comes

-- the content that is kept with a piece more: none if that is more than the store may have
abbrev pub content_with : (most : ℕ) → (piece : List ℕ) → Option (List ℕ) → Option (List ℕ)
content_with most piece None = None
content_with most piece (Some content) =
    if nat_le (length content + length piece) most then Some (content ++ piece) else None

module _ (piece : List ℕ) (before after : Stepped) where
  -- of a pass that forwards a response that is to be stored, this content is kept
  pub record IsKept (content : Option (List ℕ)) : Type 0 where
    pub passing : ¬ (IsNotPassing before.pass.phase)
    pub content_is : content_of after ≡ content
    pub pass : after.pass ≡ before.pass
    pub most : after.most ≡ before.most
    pub shown : after.shown ≡ before.shown
    pub text : after.text ≡ before.text
    pub place : after.place ≡ before.place
    pub standing : after.standing ≡ before.standing

  -- The piece is kept with those before it. `Absent` if no response to be stored is forwarded. If memory runs out
  -- for bytes that would be kept, nothing is from now on.
  abbrev pub Receives : Result (Unit {0}) Failure → Type 0
  Receives (Ok one) = IsKept (content_with before.most piece (content_of before))
  Receives (Err failure) =
      ((failure ≡ Absent) × IsNotPassing before.pass.phase × (after ≡ before))
      ⊎ ((failure ≡ Memory) × (0 < length piece) × IsSome (content_with before.most piece (content_of before))
      × IsKept None)

-- what is sent

-- the bytes from a position on, at most so many
abbrev pub part_from : List ℕ → (from most : ℕ) → List ℕ
part_from bytes from most = take most (drop from bytes)

-- the content that is shown is at the front of the room, or there is none
abbrev pub Copies : (from : ℕ) (old new : List ℕ) (written : ℕ) → Option (List ℕ) → Result (Unit {0}) Failure
    → Type 0
Copies from old new written shown (Ok one) =
    IsSomeAnd shown (λ content. IsWritten (part_from content from (length old)) done old new written done)
Copies from old new written shown (Err failure) = (failure ≡ Absent) × (shown ≡ None)
