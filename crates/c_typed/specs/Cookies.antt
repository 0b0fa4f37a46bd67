-- Cookies, as C sees them.
use Rattle.std.specs.{Prelude.{◌≡◌, ◌⊎◌, ℕ, List, [], ◌∷◌, ◌++◌, flat_map, Some, None, Result, Ok, Err}, Global.Vec}
use Rattle.headers.specs.{HeaderLaws.ReadsBy, Lines.Line, Merge.merged, Places.{items, semicolon}, Typed.HasLine}
use Rattle.{headers_items.specs.Pairs.{Pair, first_value, pairs}, c_parts.specs.FieldText.{FieldDecodes, FieldReads}}
use Rattle.c_parts.specs.{FieldText.field_lines, declared.status.Failure.{Failure, TheVariants.Absent}}

-- all lines, joined by a semicolon and a space
abbrev pub reads_cookies : List Line → List ℕ → Type 0
reads_cookies = ReadsBy (merged {V = List ℕ} semicolon (λ value. value))

-- the cookies of joined lines, each a name and a value
abbrev pub cookies_of : List ℕ → List Pair
cookies_of value = pairs (items semicolon value)

-- each cookie: its name, `=`, its value and a byte 10
abbrev pub cookies_text : List Pair → List ℕ
cookies_text cookies = flat_map (λ (cookie : Pair). cookie.0 ++ 61 ∷ (cookie.1 ++ 10 ∷ [])) cookies

abbrev pub ShowsCookies : List ℕ → Vec ℕ → Type 0
ShowsCookies value text = text.items ≡ cookies_text (cookies_of value)

-- The value of the first cookie with the name. `Absent` exactly if there is no line or no such cookie; otherwise the
-- failures are those of decoding.
abbrev pub FindsCookie : List ℕ → List ℕ → Result (Vec ℕ) Failure → Type 0
FindsCookie name text (Ok value) =
    (joined : List ℕ)
    × HasLine (field_lines text)
    × FieldReads reads_cookies text joined
    × (first_value name (cookies_of joined) ≡ Some value.items)
FindsCookie name text (Err Absent) =
    (field_lines text ≡ [])
    ⊎ ((joined : List ℕ) × FieldReads reads_cookies text joined × (first_value name (cookies_of joined) ≡ None))
FindsCookie name text (Err failure) = FieldDecodes reads_cookies text (Err failure)
