-- Where the index of a folder is found.
use Rattle.std.specs.Prelude.{◌≡◌, ◌≢◌, ◌⊎◌, ℕ, true, List, [], ◌++◌, Option, Some, None, codes, slice_index}
use Rattle.{http_header.specs.FieldValue.{FieldValue, IsFieldValue, plain_value}, server_files.specs.Path.ends_in_slash}

-- a query after its question mark
abbrev pub query_text : Option (List ℕ) → List ℕ
query_text None = []
query_text (Some query) = codes "?" ++ query

-- where the index of a folder is found, with the query
abbrev pub index_target : List ℕ → Option (List ℕ) → List ℕ
index_target path query = path ++ codes "/" ++ query_text query

-- there is no such place: the path ends in a slash already, or no field can hold it
abbrev pub HasNoIndex : List ℕ → Option (List ℕ) → Type 0
HasNoIndex path query = (ends_in_slash path ≡ true) ⊎ ¬ (IsFieldValue (index_target path query))

-- the value of Location, if there is one
abbrev pub IsLocation : List ℕ → Option (List ℕ) → Option FieldValue → Type 0
IsLocation path query None = HasNoIndex path query
IsLocation path query (Some value) = (¬ (HasNoIndex path query)) × (value ≡ plain_value (index_target path query))

-- The target names no other host: it begins with a slash, and neither a slash nor a backslash follows. `//` begins a
-- host (RFC 3986, section 4.2), and browsers read a backslash as a slash.
pub record IsOnHost (target : List ℕ) : Type 0 where
  pub rooted : slice_index target 0 ≡ 47
  pub no_slash : slice_index target 1 ≢ 47
  pub no_backslash : slice_index target 1 ≢ 92
