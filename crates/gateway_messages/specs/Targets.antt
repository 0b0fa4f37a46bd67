-- The scheme and the authority of a target in absolute-form (RFC 9112, section 3.2.2).
use Rattle.std.specs.Prelude.{ℕ, ◌==◌, Bool, ◌||◌, ◌&&◌, not, nat_le, List, bytes_eq, codes, if◌then◌else◌, length}
use Rattle.{std.specs.{Prelude.take, List.prefix_len}, http_header.specs.Token.lowercase}

-- the target begins with the mark of this length, in any case
abbrev pub begins_with : ℕ → List ℕ → List ℕ → Bool
begins_with len mark target = nat_le len (length target) && bytes_eq (lowercase (take len target)) mark

-- how many bytes are the scheme of an absolute-form, and the mark behind it
abbrev pub scheme_len : List ℕ → ℕ
scheme_len target =
    if begins_with 7 (codes "http://") target then 7
    else (if begins_with 8 (codes "https://") target then 8 else 0)

-- the byte belongs to the authority: a slash, a question mark or a number sign ends it
abbrev pub is_authority_byte : ℕ → Bool
is_authority_byte byte = not ((byte == 47) || ((byte == 63) || (byte == 35)))

-- how many bytes from the front belong to it
abbrev pub authority_len : List ℕ → ℕ
authority_len text = prefix_len is_authority_byte text
