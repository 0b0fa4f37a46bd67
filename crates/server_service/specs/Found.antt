-- What the path of a request leads to.
use Rattle.std.specs.Prelude.{◌≡◌, ◌⊎◌, ℕ, Bool, true, false, List, [], ◌∷◌, Option, Some, None, bytes_eq, codes}
use Rattle.std.specs.Prelude.{if◌then◌else◌, string_bytes}
use Rattle.{http_header.specs.FieldValue.plain_value, http_uri.specs.{declared.uri.Uri.Uri, Uri.{uri_path, uri_query}}}
use Rattle.decide_resource.specs.declared.resource.{Redirect.TheVariants.MovedPermanently, State.State}
use Rattle.decide_resource.specs.declared.resource.State.TheVariants as state
use Rattle.server_files.specs.{Path.{IsIndexOf, Names, ends_in_slash}, Redirect.{HasNoIndex, index_target}}
use Rattle.server_files.specs.declared.{coding.Coding.TheVariants.Identity, listing.Listing.Listing}
use Rattle.server_service.specs.{Representations.AreContents, declared.file.Entry.{Entry, TheVariants.Missing}}
use Rattle.server_service.specs.declared.file.Entry.TheVariants.{Forbidden, Unavailable, Folder, Listed, Readable}
use Rattle.server_service.specs.declared.{file.File.File, found.Found.Found, source.Source.TheVariants.Kept}

-- there is nothing to send in this state, and a read is answered by this status
pub record IsEmpty (now : State) (code : ℕ) (found : Found) : Type 0 where
  pub state : found.state ≡ now
  pub status : found.status ≡ code
  pub files : found.files.items ≡ []

abbrev pub IsAbsent : ℕ → Found → Type 0
IsAbsent code found = IsEmpty state.Absent code found

-- what a path is that names nothing of the store: `*` is the server in general (RFC 9110, section 9.3.7)
abbrev pub unnamed : List ℕ → State
unnamed path = if bytes_eq path (codes "*") then state.Server else state.Absent

-- it moved to the path with a slash and the query (RFC 9110, section 15.4.2)
pub record HasMoved (path : List ℕ) (query : Option (List ℕ)) (found : Found) : Type 0 where
  pub has_index : ¬ (HasNoIndex path query)
  pub state : found.state ≡ state.Moved MovedPermanently (plain_value (index_target path query))
  pub status : found.status ≡ 404
  pub files : found.files.items ≡ []

abbrev pub FindsFolder : List ℕ → Option (List ℕ) → Found → Type 0
FindsFolder path query found = (HasNoIndex path query × IsAbsent 404 found) ⊎ HasMoved path query found

-- the page that lists a folder, as a file
abbrev pub listed_file : Listing → File
listed_file listing = record {
  source = Kept listing.page;
  media_type = plain_value (codes "text/html; charset=utf-8");
  modified = None;
  coding = Identity;
}

-- it is the folder, whose listing is its one content
pub record HasListing (listing : Listing) (found : Found) : Type 0 where
  pub state : found.state ≡ state.Current
  pub status : found.status ≡ 404
  pub files : found.files.items ≡ listed_file listing ∷ []

-- A folder is listed where its path ends in a slash, below which the links of the page lead to its names. Its index
-- isn't there by its own name.
abbrev pub FindsListing : List ℕ → Listing → Found → Type 0
FindsListing path listing found =
    ((ends_in_slash path ≡ true) × HasListing listing found) ⊎ ((ends_in_slash path ≡ false) × IsAbsent 404 found)

-- what an entry at a path of the store is to a request for a URI
abbrev pub FindsEntry : Bool → (List ℕ → Entry → Type 0) → Uri → List ℕ → Entry → Found → Type 0
FindsEntry negotiates has uri named Missing found = IsAbsent 404 found
FindsEntry negotiates has uri named Forbidden found = IsAbsent 403 found
FindsEntry negotiates has uri named Unavailable found = IsAbsent 503 found
FindsEntry negotiates has uri named Folder found = FindsFolder (uri_path uri) (uri_query uri) found
FindsEntry negotiates has uri named (Listed listing) found =
    IsIndexOf (string_bytes listing.folder) named × FindsListing (uri_path uri) listing found
FindsEntry negotiates has uri named (Readable file) found =
    (found.state ≡ state.Current) × (found.status ≡ 404) × AreContents negotiates has named file found.files.items

-- what the path of a URI leads to in a store: the entry at the path that it names, or nothing if it names none
abbrev pub LeadsTo : Bool → (List ℕ → Entry → Type 0) → Uri → Found → Type 0
LeadsTo negotiates has uri found =
    ((named : List ℕ) × Names (uri_path uri) (Some named)
    × ((entry : Entry) × has named entry × FindsEntry negotiates has uri named entry found))
    ⊎ (Names (uri_path uri) None × IsEmpty (unnamed (uri_path uri)) 404 found)
