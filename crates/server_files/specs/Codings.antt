-- Codings of contents (RFC 9110, section 8.4.1).
use Rattle.{std.specs.Prelude.{ℕ, Bool, true, false, List, [], codes}, server_files.specs.declared.coding.Coding.Coding}
use Rattle.server_files.specs.declared.coding.Coding.TheVariants.{Identity, Brotli, Gzip}

-- the registered name
abbrev pub coding_name : Coding → List ℕ
coding_name Identity = codes "identity"
coding_name Brotli = codes "br"
coding_name Gzip = codes "gzip"

-- what is appended to the name of a file whose content has the coding
abbrev pub coding_suffix : Coding → List ℕ
coding_suffix Identity = []
coding_suffix Brotli = codes ".br"
coding_suffix Gzip = codes ".gz"

-- the coding changes a content
abbrev pub is_encoded : Coding → Bool
is_encoded Identity = false
is_encoded Brotli = true
is_encoded Gzip = true
