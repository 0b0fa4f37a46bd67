-- The boundary of a `multipart/byteranges` (RFC 2046, section 5.1.1, and RFC 9110, section 14.6).
use Rattle.std.specs.Prelude.{ℕ, Bool, ◌&&◌, ◌||◌, ◌==◌, List, ◌++◌, length, nat_lt, nat_le, codes}
use Rattle.{std.specs.{Char.is_ascii_alphanumeric, List.list_all}, headers.specs.Lines.Line}

-- a letter, a digit, or one of '+-._ : the bytes of a boundary that need no quotes
abbrev pub is_boundary_byte : ℕ → Bool
is_boundary_byte b = is_ascii_alphanumeric b || (b == 39 || b == 43 || b == 45 || b == 46 || b == 95)

-- 1 to 70 such bytes, and no other
abbrev pub is_boundary : List ℕ → Bool
is_boundary text = nat_lt 0 (length text) && nat_le (length text) 70 && list_all is_boundary_byte text

-- the type of several parts with the boundary between them
abbrev pub multipart_type : List ℕ → Line
multipart_type text = codes "multipart/byteranges; boundary=" ++ text
