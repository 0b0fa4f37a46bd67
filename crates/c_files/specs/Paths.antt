-- Which path the host is to open next.
use Rattle.std.specs.Prelude.{◌≡◌, ℕ, ◌==◌, Bool, true, ◌&&◌, if◌then◌else◌, List, [], ◌++◌, length, codes, Option}
use Rattle.{std.specs.Prelude.{Some, None, Result, Ok, Err, slice_get}, http.specs.Request.head_of}
use Rattle.{http_uri.specs.Uri.uri_path, c_parts.specs.declared.status.Failure.{Failure, TheVariants.{Refused, Memory}}}
use Rattle.{c_parts.specs.declared.status.Failure.TheVariants.{Absent, TooLarge}, server_files.specs.Path.Names}
use Rattle.server_files.specs.Path.{is_plain}
use Rattle.server_connection.specs.declared.connection.ServerConnection.{ServerConnection}
use Rattle.{server_connection.specs.declared.machine.Phase.TheVariants.Asking, c_files.specs.Entries.is_file}
use Rattle.c_files.specs.declared.{entry.Facts.Facts, held.HeldFiles.HeldFiles}

-- what the path at a place has appended: the target's own has nothing, those of its precompressed copies their coding
abbrev pub suffix_at : ℕ → Option (List ℕ)
suffix_at place =
    if place == 0 then Some []
    else if place == 1 then Some (codes ".br")
    else if place == 2 then Some (codes ".gz")
    else None

abbrev pub is_wanted_after : Bool → Option Facts → Bool
is_wanted_after negotiates None = true
is_wanted_after negotiates (Some first) = negotiates && is_file first

-- The path of the target is wanted, and, if codings are negotiated and it is a file, its precompressed copies.
abbrev pub is_wanted : Bool → List Facts → Bool
is_wanted negotiates found = is_wanted_after negotiates (slice_get found 0)

-- a path that the service lets open: one that is plain
abbrev pub plain_path : List ℕ → List ℕ → Option (List ℕ)
plain_path named suffix = if is_plain (named ++ suffix) then Some (named ++ suffix) else None

abbrev pub path_with : List ℕ → Option (List ℕ) → Option (List ℕ)
path_with named None = None
path_with named (Some suffix) = plain_path named suffix

-- the path to open after those where this was found, if the target names this path
abbrev pub next_path : Bool → Option (List ℕ) → List Facts → Option (List ℕ)
next_path negotiates None found = None
next_path negotiates (Some named) found =
    if is_wanted negotiates found then path_with named (suffix_at (length found)) else None

-- the same by the path of a URI
abbrev pub IsNextPath : Bool → List ℕ → List Facts → Option (List ℕ) → Type 0
IsNextPath negotiates path found next =
    (named : Option (List ℕ)) × Names path named × (next ≡ next_path negotiates named found)

abbrev pub negotiates_of : HeldFiles → Bool
negotiates_of files = files.service.site.resource.negotiation.coding

-- the path to open next for the request that waits, or why there is none
abbrev pub IsPathFor : List Facts → HeldFiles → ServerConnection → Result (List ℕ) Failure → Type 0
IsPathFor found files connection (Ok path) =
    (connection.machine.phase ≡ Asking) × (is_plain path ≡ true)
    × IsNextPath (negotiates_of files) (uri_path (head_of connection.machine.request).uri) found (Some path)
IsPathFor found files connection (Err Absent) =
    (connection.machine.phase ≡ Asking)
    × IsNextPath (negotiates_of files) (uri_path (head_of connection.machine.request).uri) found None
IsPathFor found files connection (Err Refused) = ¬ (connection.machine.phase ≡ Asking)
IsPathFor found files connection (Err Memory) = connection.machine.phase ≡ Asking
IsPathFor found files connection (Err TooLarge) = ⊥
