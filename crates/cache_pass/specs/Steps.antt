-- The steps of a pass: what each answers, how far the pass is then, and what becomes of the cache.
use Rattle.{cache_store.specs.History.{Call.Looked, History}, std.specs.Prelude.{[], Err, Result, Some}}
use Rattle.std.specs.{declared.alloc.AllocError.AllocError, Prelude.{◌≡◌, ◌⊎◌, alloc_error, List, None, Ok, Option, ℕ}}
use Rattle.cache_rules.specs.declared.storing.Reception.{Reception, TheVariants.{Complete, Incomplete}}
use Rattle.{cache_rules.specs.declared.stored.StoredResponse.StoredResponse, headers.specs.LineMap.lines_at}
use Rattle.cache_pass.specs.Effects.{DoAll, Does, kept_of, settings_of, stored_at}
use Rattle.cache_pass.specs.Passes.{asked_of, IsReceived, key_of, phase_after, phase_first, request_of_pass}
use Rattle.cache_pass.specs.{Keeping.IsKept, Origin.IsNext, Passes.IsSameRequest, Replies.{IsFirstOf, IsOnError}}
use Rattle.cache_pass.specs.declared.pass.{Asked.Asked, Pass.Pass, Phase.TheVariants.{Began, Ended, Passing}}
use Rattle.cache_pass.specs.declared.{cache.Cache.Cache, replying.{First.First, Reply.Reply}, revalidating.Next.Next}
use Rattle.http_header.specs.{FieldValue.FieldValue, HeaderMap.Entries}

-- what is answered of a response that isn't kept: it didn't come whole, or memory ran out for it
abbrev pub unkept : Reception → Result (Option ℕ) AllocError
unkept Complete = Err alloc_error
unkept Incomplete = Ok None

module _ (old : Pass) (before : Cache) where
  -- what `begin` does at this time
  pub record HasBegun (now : ℕ) (new : Pass) (after : Cache) (first : Result First AllocError) : Type 0 where
    pub began : old.phase ≡ Began
    pub answer : IsFirstOf (settings_of before) (request_of_pass old) now (stored_at (key_of old) after) first
    pub does : Does (settings_of before) (Looked (key_of old)) (kept_of before) (kept_of after)
    pub settings : settings_of after ≡ settings_of before
    pub same : IsSameRequest old new
    pub phase : new.phase ≡ phase_first first now after.removals.clock

  -- what `came` does at this time with a response of this status and these fields
  pub record HasCome (status : ℕ) (response : Entries FieldValue) (now : ℕ) (new : Pass) (after : Cache)
      (next : Result Next AllocError) : Type 0 where
    pub asked : Asked
    pub asking : asked_of old.phase ≡ Some asked
    pub calls : History
    pub answer : IsNext (settings_of before) (key_of old) (request_of_pass old) asked status (lines_at response) now
        (kept_of before) (kept_of after) calls next
    pub does : DoAll (settings_of before) calls (kept_of before) (kept_of after)
    pub settings : settings_of after ≡ settings_of before
    pub same : IsSameRequest old new
    pub phase : new.phase ≡ phase_after next asked status response now after.removals.clock

  -- what `failed` does at this time
  pub record HasFailed (now : ℕ) (new : Pass) (after : Cache) (found : Result (Option Reply) AllocError) : Type 0
    where
      pub asked : Asked
      pub asking : asked_of old.phase ≡ Some asked
      pub answer : IsOnError (settings_of before) (request_of_pass old) now (stored_at (key_of old) after) found
      pub does : Does (settings_of before) (Looked (key_of old)) (kept_of before) (kept_of after)
      pub settings : settings_of after ≡ settings_of before
      pub same : IsSameRequest old new
      pub phase : new.phase ≡ Ended

  -- what becomes of the response that passed on: all of it came and it is kept, or nothing happens
  abbrev pub IsClosed : Asked → ℕ → Entries FieldValue → List ℕ → Reception → ℕ → Cache → History
      → Result (Option ℕ) AllocError → Type 0
  IsClosed asked status response content reception now after calls number =
      ((reception ≡ Complete)
      × ((came : StoredResponse) × IsReceived old asked.requested status response content now came
      × IsKept (settings_of before) (key_of old) came asked.clock (kept_of before) (kept_of after) calls number))
      ⊎ ((kept_of after ≡ kept_of before) × (calls ≡ []) × (number ≡ unkept reception))

  -- what `ended` does at this time with this content
  pub record HasEnded (content : List ℕ) (reception : Reception) (now : ℕ) (new : Pass) (after : Cache)
      (number : Result (Option ℕ) AllocError) : Type 0 where
    pub asked : Asked
    pub status : ℕ
    pub response : Entries FieldValue
    pub passing : old.phase ≡ Passing asked status response
    pub calls : History
    pub closed : IsClosed asked status response content reception now after calls number
    pub settings : settings_of after ≡ settings_of before
    pub same : IsSameRequest old new
    pub phase : new.phase ≡ Ended
