-- Texts that are the same but for the case of ASCII letters.
use Rattle.std.specs.Prelude.{◌≡◌, ℕ, Bool, List, bytes_eq}
use Rattle.http_header.specs.Token.{lowercase}

-- equal once each ASCII letter is in lower case
abbrev pub SameButForCase : List ℕ → List ℕ → Type 0
SameButForCase a b = lowercase a ≡ lowercase b

-- the same, as a test
abbrev pub same_name : List ℕ → List ℕ → Bool
same_name a b = bytes_eq (lowercase a) (lowercase b)
