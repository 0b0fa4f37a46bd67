-- What a store of one file has.
use Rattle.std.specs.Prelude.{◌≡◌, ◌≢◌, ℕ, List, string_bytes}
use Rattle.server_files.specs.declared.coding.Coding.TheVariants.{Identity}
use Rattle.server_service.specs.declared.file.Entry.{Entry, TheVariants.{Missing, Forbidden, Unavailable, Folder}}
use Rattle.server_service.specs.declared.{file.Entry.TheVariants.{Listed, Readable}, source.Source.Source}
use Rattle.server_service.specs.declared.{source.Source.TheVariants.{Kept, Opened}, memory.Memory.Memory}

-- the bytes are these, in memory
abbrev pub IsKept : List ℕ → Source → Type 0
IsKept content (Kept kept) = kept.content ≡ content
IsKept content (Opened opened) = ⊥

-- the file at its path, and nothing at others
abbrev pub HasOne : Memory → List ℕ → Entry → Type 0
HasOne store path Missing = path ≢ string_bytes store.path
HasOne store path Forbidden = ⊥
HasOne store path Unavailable = ⊥
HasOne store path Folder = ⊥
HasOne store path (Listed listing) = ⊥
HasOne store path (Readable file) =
    (path ≡ string_bytes store.path) × IsKept store.content.content file.source
    × (file.media_type ≡ store.media_type) × (file.modified ≡ store.modified) × (file.coding ≡ Identity)
