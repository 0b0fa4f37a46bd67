-- Paths of a store, and the path that a URI names.
use Rattle.std.specs.Prelude.{◌≡◌, ℕ, ◌-◌, Bool, true, false, not, ◌&&◌, ◌||◌, ◌==◌, nat_lt, List, [], ◌∷◌, ◌++◌}
use Rattle.std.specs.Prelude.{Option, Some, None, bytes_eq, codes, drop, IsUtf8, if◌then◌else◌, length, slice_index}
use Rattle.{std.specs.List.{list_all, slice_split}, percent_encoding.specs.Percent.percent_decode}

-- any byte but NUL (0) and the backslash (92)
abbrev pub is_name_byte : ℕ → Bool
is_name_byte byte = not (byte == 0) && not (byte == 92)

-- a name that a store may have: it isn't empty, and doesn't begin with a dot (46), so it isn't `..`
abbrev pub is_name : List ℕ → Bool
is_name name = nat_lt 0 (length name) && (not (slice_index name 0 == 46) && list_all is_name_byte name)

-- The first name of a path may also be `.well-known`: below it clients look for what concerns the whole site (RFC 8615,
-- section 3).
abbrev pub is_first_name : List ℕ → Bool
is_first_name name = is_name name || bytes_eq name (codes ".well-known")

-- the names of a path, from the root down
abbrev pub are_names : List (List ℕ) → Bool
are_names [] = false
are_names (name ∷ names) = is_first_name name && list_all is_name names

-- A path of such names, with a slash (47) between each two of them: it isn't absolute, and doesn't end in a slash.
abbrev pub is_plain : List ℕ → Bool
is_plain path = are_names (slice_split (λ byte. byte == 47) path)

-- the last byte is a slash
abbrev pub ends_in_slash : List ℕ → Bool
ends_in_slash path = nat_lt 0 (length path) && (slice_index path (length path - 1) == 47)

-- the path is that of a folder: the root's, which is empty, or one that ends in a slash
abbrev pub names_folder : List ℕ → Bool
names_folder path = (length path == 0) || ends_in_slash path

-- a folder means its file `index.html`
abbrev pub with_index : List ℕ → List ℕ
with_index path = if names_folder path then path ++ codes "index.html" else path

-- the path is that of the index of a folder, whose own path is empty or ends in a slash
abbrev pub IsIndexOf : List ℕ → List ℕ → Type 0
IsIndexOf folder path = (names_folder folder ≡ true) × (path ≡ folder ++ codes "index.html")

-- the folder whose index the path is that of, if there is one
abbrev pub IsFolderOf : List ℕ → Option (List ℕ) → Type 0
IsFolderOf path None = (folder : List ℕ) → ¬ (IsIndexOf folder path)
IsFolderOf path (Some folder) = IsIndexOf folder path

-- the percent-decoded text, or none if that isn't UTF-8
abbrev pub IsDecoded : List ℕ → Option (List ℕ) → Type 0
IsDecoded encoded None = ¬ (IsUtf8 (percent_decode encoded))
IsDecoded encoded (Some text) = (text ≡ percent_decode encoded) × IsUtf8 text

-- The path of a URI begins with a slash and names this path of a store: what follows the slash, percent-decoded,
-- with the index, which is plain.
pub record IsStorePath (path named : List ℕ) : Type 0 where
  pub rooted : slice_index path 0 ≡ 47
  pub utf8 : IsUtf8 (percent_decode (drop 1 path))
  pub is_named : named ≡ with_index (percent_decode (drop 1 path))
  pub plain : is_plain named ≡ true

-- the path of a store that the path of a URI names, or none if it names none
abbrev pub Names : List ℕ → Option (List ℕ) → Type 0
Names path None = (named : List ℕ) → ¬ (IsStorePath path named)
Names path (Some named) = IsStorePath path named
