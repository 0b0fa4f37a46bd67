-- The plan of a response.
use Rattle.std.specs.Prelude.{◌≡◌, ◌⊎◌, ℕ, Bool, if◌then◌else◌, List, length, Option, Some, None, Result, Ok, Err, ⊤}
use Rattle.{std.specs.Prelude.{option_map, string_bytes}, http.specs.Request.head_of, http_uri.specs.Uri.uri_path}
use Rattle.c_parts.specs.declared.status.Failure.{Failure, TheVariants.{Refused, Memory, Absent, TooLarge}}
use Rattle.server_files.specs.Path.{Names}
use Rattle.server_connection.specs.declared.connection.ServerConnection.{ServerConnection}
use Rattle.server_connection.specs.declared.{plan.ResponsePlan.ResponsePlan, machine.Phase.TheVariants.Asking}
use Rattle.server_service.specs.{Answer.{IsAnswer, IsSameSite}, declared.source.Reader.{Reader, TheVariants.System}}
use Rattle.server_service.specs.declared.source.{Reader.TheVariants.Caller, Source.{Source, TheVariants.{Kept, Opened}}}
use Rattle.c_files.specs.{Entries.entry_at, Paths.{IsNextPath, negotiates_of, next_path}, declared.entry.Facts.Facts}
use Rattle.c_files.specs.declared.held.HeldFiles.{HeldFiles}

-- how many responses are left
abbrev pub left_for : Bool → ℕ
left_for is_last = if is_last then 1 else 2

abbrev pub number_by : Reader → ℕ → ℕ
number_by (System file) count = count
number_by (Caller place) count = place

-- the number of the open file that the ranges of a response are of, or how many entries there are
abbrev pub number_of : Option Source → ℕ → ℕ
number_of None count = count
number_of (Some (Kept kept)) count = count
number_of (Some (Opened opened)) count = number_by opened.reader count

-- the service has the same settings and keys
pub record KeepsSettings (old new : HeldFiles) : Type 0 where
  pub site : IsSameSite old.service.site new.service.site
  pub keys : new.service.store.keys ≡ old.service.store.keys

-- the service was told what the host found
pub record Knows (named : Option (List ℕ)) (found : List Facts) (now : ℕ) (is_last : Bool) (old new : HeldFiles)
    : Type 0 where
  pub named_is : option_map string_bytes new.service.store.named ≡ named
  pub entries : new.service.store.entries.items ≡ found
  pub time : new.service.store.time ≡ now
  pub keys : new.service.store.keys ≡ old.service.store.keys
  pub left : new.service.left ≡ left_for is_last
  pub site : new.service.site ≡ old.service.site

-- The service was told of all paths. Else it stays as it was: one is left to open, or no memory is left.
abbrev pub IsReadyFor : List ℕ → List Facts → ℕ → Bool → HeldFiles → HeldFiles → Result (Unit {0}) Failure → Type 0
IsReadyFor path found now is_last old new (Ok tt) =
    (named : Option (List ℕ)) × Names path named × (next_path (negotiates_of old) named found ≡ None)
    × Knows named found now is_last old new
IsReadyFor path found now is_last old new (Err Refused) =
    (new ≡ old) × (next : List ℕ) × IsNextPath (negotiates_of old) path found (Some next)
IsReadyFor path found now is_last old new (Err Memory) = new ≡ old
IsReadyFor path found now is_last old new (Err Absent) = ⊥
IsReadyFor path found now is_last old new (Err TooLarge) = ⊥

-- The plan is the answer of the service to the request that waits, at this time, and for what was found at the paths
-- that were to be opened. No path is left to open.
pub record IsPlanned (found : List Facts) (now : ℕ) (is_last : Bool) (connection : ServerConnection)
    (old new : HeldFiles) (plan : ResponsePlan) (number : ℕ) : Type 0 where
  pub asks : connection.machine.phase ≡ Asking
  pub named : Option (List ℕ)
  pub names : Names (uri_path (head_of connection.machine.request).uri) named
  pub whole : next_path (negotiates_of old) named found ≡ None
  pub answers : IsAnswer (λ time. time ≡ Some now) (left_for is_last) old.service.site
      (λ path entry. entry ≡ entry_at old.service.store.keys now named found path) connection.machine.request plan
      new.service.source
  pub keeps : KeepsSettings old new
  pub number_is : number ≡ number_of new.service.source (length found)

-- No request waits, or a path is left to open.
abbrev pub IsEarly : List Facts → HeldFiles → ServerConnection → Type 0
IsEarly found files connection =
    (¬ (connection.machine.phase ≡ Asking))
    ⊎ ((next : List ℕ)
    × IsNextPath (negotiates_of files) (uri_path (head_of connection.machine.request).uri) found (Some next))

-- Of a plan for which no memory is left nothing is said.
abbrev pub PlansFor : List Facts → ℕ → Bool → ServerConnection → (old new : HeldFiles) → (before plan : ResponsePlan)
    → Result ℕ Failure → Type 0
PlansFor found now is_last connection old new before plan (Ok number) =
    IsPlanned found now is_last connection old new plan number
PlansFor found now is_last connection old new before plan (Err Refused) =
    (new ≡ old) × (plan ≡ before) × IsEarly found old connection
PlansFor found now is_last connection old new before plan (Err Memory) = ⊤
PlansFor found now is_last connection old new before plan (Err Absent) = ⊥
PlansFor found now is_last connection old new before plan (Err TooLarge) = ⊥
