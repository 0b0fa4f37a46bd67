-- Text, and text without blanks or quotes at its ends.
use Rattle.std.specs.Prelude.{ℕ, ◌-◌, Bool, ◌||◌, ◌==◌, List, take, drop, length}
use Rattle.std.specs.List.{list_all, prefix_len, suffix_len}
use Rattle.http_header.specs.Token.{is_visible_or_blank}

-- b'"'
abbrev pub quote : ℕ
quote = 34

abbrev pub is_quote : ℕ → Bool
is_quote b = b == quote

-- a space or a tab
abbrev pub is_blank : ℕ → Bool
is_blank b = b == 9 || b == 32

-- each byte is a tab, a space or visible ASCII
abbrev pub is_text : List ℕ → Bool
is_text s = list_all is_visible_or_blank s

-- s without leading and trailing spaces and tabs
abbrev pub trim_start : List ℕ → List ℕ
trim_start s = drop (prefix_len is_blank s) s

abbrev pub trim_end : List ℕ → List ℕ
trim_end s = take (length s - suffix_len is_blank s) s

abbrev pub trim : List ℕ → List ℕ
trim s = trim_end (trim_start s)

-- s without leading and trailing quotes
abbrev pub without_quotes : List ℕ → List ℕ
without_quotes s =
    let rest = drop (prefix_len is_quote s) s in take (length rest - suffix_len is_quote rest) rest
