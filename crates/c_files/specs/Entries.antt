-- What the host found, as entries of a store.
use Rattle.std.specs.Prelude.{ℕ, ◌==◌, nat_lt, Bool, if◌then◌else◌, List, [], length, take, drop, bytes_eq, codes}
use Rattle.std.specs.Prelude.{Option, Some, None, option_map, slice_get, string_bytes}
use Rattle.{http_header.specs.FieldValue.plain_value, c_parts.specs.declared.keys.HashKeys.HashKeys}
use Rattle.{server_files.specs.declared.coding.Coding.TheVariants.Identity, server_service.specs.File.media_type_at}
use Rattle.server_service.specs.declared.file.Entry.{Entry, TheVariants.{Missing, Forbidden, Unavailable, Folder}}
use Rattle.server_service.specs.declared.file.{Entry.TheVariants.Readable, File.File}
use Rattle.server_service.specs.declared.source.{Reader.TheVariants.Caller, Source.TheVariants.Opened}
use Rattle.c_files.specs.{Tags.tag_of, declared.{entry.Facts.Facts, store.Found.Found}}

abbrev pub is_file : Facts → Bool
is_file facts = facts.kind == 1

-- when it was last modified, if the year has four digits
abbrev pub modified_of : Facts → Option ℕ
modified_of facts = if nat_lt facts.modified 253402300800 then Some facts.modified else None

-- the file at a path, which the host has open under this number
abbrev pub file_of : HashKeys → ℕ → List ℕ → ℕ → Facts → File
file_of keys now path place facts = record {
  source = Opened (record { reader = Caller place; len = facts.length; tag = tag_of keys now facts });
  media_type = plain_value (media_type_at path);
  modified = modified_of facts;
  coding = Identity;
}

-- the entry of a kind
abbrev pub entry_by : ℕ → File → Entry
entry_by kind file =
    if kind == 0 then Missing
    else if kind == 1 then Readable file
    else if kind == 2 then Folder
    else if kind == 3 then Forbidden
    else Unavailable

abbrev pub entry_told : HashKeys → ℕ → List ℕ → ℕ → Option Facts → Entry
entry_told keys now path place None = Missing
entry_told keys now path place (Some facts) = entry_by facts.kind (file_of keys now path place facts)

-- what was found at a path, of which the host told at this place
abbrev pub entry_from : HashKeys → ℕ → List Facts → List ℕ → ℕ → Entry
entry_from keys now entries path place = entry_told keys now path place (slice_get entries place)

abbrev pub suffix_of : List ℕ → List ℕ → Option (List ℕ)
suffix_of named path =
    if bytes_eq (take (length named) path) named then Some (drop (length named) path) else None

-- the order of the paths: the target's own, and those of its precompressed copies
abbrev pub place_of : List ℕ → Option ℕ
place_of suffix =
    if length suffix == 0 then Some 0
    else if bytes_eq suffix (codes ".br") then Some 1
    else if bytes_eq suffix (codes ".gz") then Some 2
    else None

abbrev pub place_by : Option (List ℕ) → Option ℕ
place_by None = None
place_by (Some suffix) = place_of suffix

-- the place of a path in that order, where the target names a path
abbrev pub place_at : Option (List ℕ) → List ℕ → Option ℕ
place_at None path = None
place_at (Some named) path = place_by (suffix_of named path)

abbrev pub entry_or : HashKeys → ℕ → List Facts → List ℕ → Option ℕ → Entry
entry_or keys now entries path None = Missing
entry_or keys now entries path (Some place) = entry_from keys now entries path place

-- What was found at a path. At another path than those that the host was asked to open, nothing is.
abbrev pub entry_at : HashKeys → ℕ → Option (List ℕ) → List Facts → List ℕ → Entry
entry_at keys now named entries path = entry_or keys now entries path (place_at named path)

abbrev pub entry_in : Found → List ℕ → Entry
entry_in found path = entry_at found.keys found.time (option_map string_bytes found.named) found.entries.items path
