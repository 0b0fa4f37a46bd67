-- Calls on a service of files, for the request that waits on a connection.
use Rattle.std.specs.Prelude.{◌≡◌, ℕ, Bool, List, Option, Some, None, Result, Ok, Err}
use Rattle.c_parts.specs.declared.{keys.HashKeys.HashKeys, status.Failure.{Failure, TheVariants.Absent}}
use Rattle.{server_service.specs.declared.settings.Settings.Settings, c_files.specs.Opening.{AreSettings, IsNew}}
use Rattle.c_files.specs.{Opening.IsSettingsOf, Paths.IsPathFor, Plans.PlansFor, declared.entry.Facts.Facts}
use Rattle.c_files.specs.declared.{held.HeldFiles.HeldFiles, settings.FilesOptions.FilesOptions}
use Rattle.c_handles.specs.declared.held.{Held.Held, HeldConnection.HeldConnection}
use Rattle.c_handles.specs.declared.held.Held.TheVariants as held
use Rattle.c_connection.specs.Plans.{KeepsConnection}

-- a new service with these settings, or why there is none
abbrev pub IsFilesHeld : FilesOptions → HashKeys → Result Held Failure → Type 0
IsFilesHeld given keys (Ok (held.Files files)) =
    (settings : Settings) × AreSettings given settings × IsNew settings keys files
IsFilesHeld given keys (Ok other) = ⊥
IsFilesHeld given keys (Err failure) = IsSettingsOf given (Err failure)

-- the path to open next; `Absent` if a handle has no such thing
abbrev pub IsPathNext : List Facts → Option HeldFiles → Option HeldConnection → Result (List ℕ) Failure → Type 0
IsPathNext found None connection answer = answer ≡ Err Absent
IsPathNext found (Some files) None answer = answer ≡ Err Absent
IsPathNext found (Some files) (Some held) answer = IsPathFor found files held.connection answer

module _ (found : List Facts) (now : ℕ) (is_last : Bool) where
  -- the two handles stay open, and the plan is made
  abbrev pub PlansIn : HeldFiles → HeldConnection → (new is : Option Held) → Result ℕ Failure → Type 0
  PlansIn old was (Some (held.Files new)) (Some (held.Connection is)) answer =
      PlansFor found now is_last was.connection old new was.plan is.plan answer × KeepsConnection was is
  PlansIn old was new is answer = ⊥

  -- The handles of a service and of a connection stay open, and the plan is made. Any others stay as they were, and the
  -- answer is `Absent`.
  abbrev pub Plans : (old new was is : Option Held) → Result ℕ Failure → Type 0
  Plans (Some (held.Files old)) new (Some (held.Connection was)) is answer = PlansIn old was new is answer
  Plans old new was is answer = (answer ≡ Err Absent) × (new ≡ old) × (is ≡ was)
