-- What a cache reads of the fields of a message.
use Rattle.std.specs.Prelude.{ℕ, ◌+◌, ◌-◌, ◌^◌, min, Bool, ◌==◌, List, [], ◌∷◌, Option, option_and_then, unwrap_or}
use Rattle.{std.specs.{Prelude.codes, List.before_first}, headers_map.specs.{LineMap.LineMap, Typed.HasLine}}
use Rattle.{headers_syntax.specs.{Lines.{Line, only_line}, Text.trim}, rfc_values.specs.Calendar.unix_epoch}
use Rattle.{rfc_values.specs.Date.timestamp, rfc_fields.specs.Numbers.number_within}

-- the message has a field of this name
abbrev pub IsPresent : List ℕ → LineMap → Type 0
IsPresent name message = HasLine (message name)

-- the greatest number of seconds
abbrev pub greatest : ℕ
greatest = 2 ^ 64 - 1

-- the number, or the greatest number of seconds if it lies past that (section 1.2.2)
abbrev pub capped : ℕ → ℕ
capped n = min n greatest

-- The date of a field, in seconds since the year 0: its only line, if that is an HTTP-date (RFC 9110, section 5.6.7). A
-- year of two digits is one near `now`.
abbrev pub date_in : ℕ → List ℕ → LineMap → Option ℕ
date_in now name message = option_and_then (λ line. timestamp now (trim line)) (only_line (message name))

-- when the message was made: its Date, or when it came if it has none that is valid (RFC 9110, section 6.6.1)
abbrev pub dated : ℕ → LineMap → ℕ
dated received message = unwrap_or (date_in received (codes "date") message) (unix_epoch + received)

abbrev pub is_comma : ℕ → Bool
is_comma b = b == 44

-- The number of Age: what stands before the first comma of the first line, and 0 if that is no number of seconds or
-- there is no line (section 5.1).
abbrev pub age_of : List Line → ℕ
age_of [] = 0
age_of (line ∷ lines) = unwrap_or (number_within greatest (trim (before_first is_comma line))) 0

abbrev pub age_value : LineMap → ℕ
age_value message = age_of (message (codes "age"))
