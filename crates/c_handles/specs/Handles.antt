-- Calls on a handle.
use Rattle.std.specs.Prelude.{◌≡◌, Option, Some, None, Result, Ok, Err}
use Rattle.{http_header.specs.{FieldValue.FieldValue, HeaderMap.Entries}, decide_cors.specs.Policy.Policy}
use Rattle.{decide_resource.specs.declared.resource.Resource.Resource, c_parts.specs.declared.status.Failure.Failure}
use Rattle.c_parts.specs.declared.status.Failure.TheVariants.{Refused, Absent}
use Rattle.c_pass.specs.declared.held.{Shared.Shared, Stepped.Stepped}
use Rattle.{c_files.specs.declared.held.HeldFiles.HeldFiles, c_handles.specs.declared.held.Held.Held}
use Rattle.c_handles.specs.declared.held.HeldConnection.{HeldConnection}
use Rattle.c_handles.specs.declared.held.Held.TheVariants as held

-- the fields of the section that a handle has
abbrev pub section_in : Option Held → Option (Entries FieldValue)
section_in (Some (held.Section fields)) = Some fields
section_in other = None

-- the policy that a handle has
abbrev pub policy_in : Option Held → Option Policy
policy_in (Some (held.Policy policy)) = Some policy
policy_in other = None

-- the resource that a handle has
abbrev pub resource_in : Option Held → Option Resource
resource_in (Some (held.Resource resource)) = Some resource
resource_in other = None

-- the cache that a handle has
abbrev pub cache_in : Option Held → Option Shared
cache_in (Some (held.Cache shared)) = Some shared
cache_in other = None

-- the pass that a handle has
abbrev pub pass_in : Option Held → Option Stepped
pass_in (Some (held.Pass stepped)) = Some stepped
pass_in other = None

-- the connection that a handle has
abbrev pub connection_in : Option Held → Option HeldConnection
connection_in (Some (held.Connection connection)) = Some connection
connection_in other = None

-- the service of files that a handle has
abbrev pub files_in : Option Held → Option HeldFiles
files_in (Some (held.Files files)) = Some files
files_in other = None

-- this is said of what a handle has; without it, the answer is `Absent`
abbrev pub OnHeld : {X V : Type 0} → (X → Result V Failure → Type 0) → Option X → Result V Failure → Type 0
OnHeld P None answer = answer ≡ Err Absent
OnHeld P (Some value) answer = P value answer

-- A closed handle is opened with a value for which P holds, or stays closed and P holds for the failure. An open handle
-- stays as it was, and the failure is `Refused`.
abbrev pub Opens : (Result Held Failure → Type 0) → (old new : Option Held) → Result (Unit {0}) Failure → Type 0
Opens P None (Some new) answer = (answer ≡ Ok tt) × P (Ok new)
Opens P None None answer = (failure : Failure) × (answer ≡ Err failure) × P (Err failure)
Opens P (Some old) new answer = (answer ≡ Err Refused) × (new ≡ Some old)
