-- Stores that have the same where a request looks, or what a client takes for it.
use Rattle.std.specs.Prelude.{◌≡◌, ◌++◌, ℕ, Bool, true, List, Some, ◌⊎◌, Option}
use Rattle.server_files.specs.{Codings.coding_suffix, Path.Names, declared.coding.Coding.Coding}
use Rattle.server_service.specs.{declared.file.{Entry.{Entry, TheVariants.Readable}, File.File}, File.tag_of}
use Rattle.http_header.specs.FieldValue.{FieldValue}

-- a store that has one entry at each path
abbrev pub has_at : (List ℕ → Entry) → List ℕ → Entry → Type 0
has_at look path entry = entry ≡ look path

-- both have the same at the path that this path of a URI names, and beside it in a coding, if codings are negotiated
pub record HaveAlike (negotiates : Bool) (path : List ℕ) (look other : List ℕ → Entry) : Type 0 where
  pub named : (named : List ℕ) → Names path (Some named) → look named ≡ other named
  pub beside : (named : List ℕ) (coding : Coding) → negotiates ≡ true → Names path (Some named)
      → look (named ++ coding_suffix coding) ≡ other (named ++ coding_suffix coding)

-- what a client knows a file by
pub record Label : Type 0 where
  pub tag : Option FieldValue
  pub media_type : FieldValue
  pub modified : Option ℕ
  pub coding : Coding

abbrev pub label_of : File → Label
label_of file = record {
  tag = tag_of file.source;
  media_type = file.media_type;
  modified = file.modified;
  coding = file.coding;
}

-- both are the same, or files with the same entity tag, media type, modification date and coding
abbrev pub AreSimilar : Entry → Entry → Type 0
AreSimilar a b =
    (a ≡ b) ⊎ ((f : File) × (g : File) × (a ≡ Readable f) × (b ≡ Readable g) × (label_of f ≡ label_of g))

-- two stores have something similar at the path that this path of a URI names, and beside it in a coding, if codings
-- are negotiated
pub record HaveSimilar (negotiates : Bool) (path : List ℕ) (look other : List ℕ → Entry) : Type 0 where
  pub named : (named : List ℕ) → Names path (Some named) → AreSimilar (look named) (other named)
  pub beside : (named : List ℕ) (coding : Coding) → negotiates ≡ true → Names path (Some named)
      → AreSimilar (look (named ++ coding_suffix coding)) (other (named ++ coding_suffix coding))
