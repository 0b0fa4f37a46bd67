-- What a store may say of a path.
use Rattle.{std.specs.Prelude.{ℕ, List, ⊤, string_bytes}, server_files.specs.Path.IsIndexOf}
use Rattle.server_service.specs.declared.file.Entry.{Entry, TheVariants.{Missing, Forbidden, Unavailable, Folder}}
use Rattle.server_service.specs.declared.file.Entry.TheVariants.{Listed, Readable}

-- a listing is that of the folder whose index the path names
abbrev pub ListsOwn : List ℕ → Entry → Type 0
ListsOwn path Missing = ⊤
ListsOwn path Forbidden = ⊤
ListsOwn path Unavailable = ⊤
ListsOwn path Folder = ⊤
ListsOwn path (Listed listing) = IsIndexOf (string_bytes listing.folder) path
ListsOwn path (Readable file) = ⊤
