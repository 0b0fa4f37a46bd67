-- The contents of a file.
use Rattle.std.specs.Prelude.{◌≡◌, ◌⊎◌, ℕ, Bool, true, false, List, [], ◌∷◌, ◌++◌}
use Rattle.{http_header.specs.FieldValue.FieldValue, server_files.specs.{Codings.coding_suffix, Path.is_plain}}
use Rattle.server_files.specs.declared.coding.Coding.{Coding, TheVariants.{Identity, Brotli, Gzip}}
use Rattle.server_service.specs.declared.file.Entry.{Entry, TheVariants.{Missing, Forbidden, Unavailable, Folder}}
use Rattle.server_service.specs.declared.file.{Entry.TheVariants.{Listed, Readable}, File.File}

-- a stored content as a representation of this media type, in a coding
abbrev pub represented : FieldValue → Coding → File → File
represented media_type coding stored = record stored { media_type = media_type; coding = coding }

-- the representation that an entry is, if it is one
abbrev pub offered : FieldValue → Coding → Entry → List File
offered media_type coding Missing = []
offered media_type coding Forbidden = []
offered media_type coding Unavailable = []
offered media_type coding Folder = []
offered media_type coding (Listed listing) = []
offered media_type coding (Readable stored) = represented media_type coding stored ∷ []

-- what a store has at a path; at one that isn't plain it has nothing
abbrev pub HasEntryAt : (List ℕ → Entry → Type 0) → List ℕ → Entry → Type 0
HasEntryAt has path entry =
    ((is_plain path ≡ true) × has path entry) ⊎ ((is_plain path ≡ false) × (entry ≡ Missing))

-- The representations of the file at a path of a store, the most wanted first: its own, and its precompressed copies.
pub record AreOffers (has : List ℕ → Entry → Type 0) (path : List ℕ) (file : File) (offers : List File) : Type 0 where
  pub brotli : Entry
  pub gzip : Entry
  pub has_brotli : HasEntryAt has (path ++ coding_suffix Brotli) brotli
  pub has_gzip : HasEntryAt has (path ++ coding_suffix Gzip) gzip
  pub are : offers ≡ (represented file.media_type Identity file ∷ offered file.media_type Brotli brotli)
      ++ offered file.media_type Gzip gzip

-- the contents of the file at a path: its own, and its precompressed copies if codings are negotiated
abbrev pub AreContents : Bool → (List ℕ → Entry → Type 0) → List ℕ → File → List File → Type 0
AreContents false has path file files = files ≡ file ∷ []
AreContents true has path file files = AreOffers has path file files
