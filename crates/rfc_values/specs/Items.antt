-- Items of structured fields, by the algorithms of RFC 8941, section 4.2: what a text begins with, and what follows it.
-- Each takes as many bytes as it can, so there is one reading at most.
use Rattle.std.specs.Prelude.{ℕ, zero, suc, Bool, true, false, ◌&&◌, ◌||◌, ◌==◌, ◌-◌, nat_le, nat_lt, List, [], ◌∷◌}
use Rattle.std.specs.Prelude.{length, take, Option, Some, None, option_and_then, option_map, if◌then◌else◌}
use Rattle.{std.specs.Char.is_ascii_digit, rfc_values.specs.Bytes.{after_run, before, begins_key, begins_token}}
use Rattle.rfc_values.specs.{Bytes.is_printable, declared.bytes.Class.TheVariants.{Base64, Digit, Key, Space, Token}}

-- the value of an item: an integer with its text, a boolean, a string with what stands between its quotes, or another
pub data ValueParts : Type 0 where
  Integer : List ℕ → ValueParts
  Boolean : Bool → ValueParts
  Text : List ℕ → ValueParts
  Other : ValueParts

-- what a text begins with, and what follows it
pub record Reading : Type 0 where
  pub value : ValueParts
  pub rest : List ℕ

-- ---- keys (section 4.2.3.3)

-- what follows a key
abbrev pub after_key : List ℕ → Option (List ℕ)
after_key [] = None
after_key (b ∷ s) = if begins_key b then Some (after_run Key s) else None

-- ---- bare items (section 4.2.3.1)

-- an integer has up to 15 digits (section 4.2.4)
abbrev pub integer : List ℕ → ℕ → List ℕ → Option Reading
integer text digits rest =
    if nat_le digits 15 then Some (record { value = Integer (before text rest); rest = rest }) else None

-- a decimal has up to 12 digits before the point and 1 to 3 after it; `s` is what follows the point
abbrev pub decimal : ℕ → List ℕ → Option Reading
decimal digits s =
    let rest = after_run Digit s in
    let places = length s - length rest in
    if nat_le digits 12 && nat_le 1 places && nat_le places 3 then Some (record { value = Other; rest = rest })
    else None

-- a number with so many digits before `rest`
abbrev pub number_by : List ℕ → ℕ → List ℕ → Option Reading
number_by text digits [] = integer text digits []
number_by text digits (b ∷ s) = if b == 46 then decimal digits s else integer text digits (b ∷ s)

-- what follows the sign of a number, if it has one
abbrev pub unsigned : List ℕ → List ℕ
unsigned [] = []
unsigned (b ∷ s) = if b == 45 then s else b ∷ s

-- an integer or a decimal
abbrev pub number : List ℕ → Option Reading
number text =
    let start = unsigned text in
    let rest = after_run Digit start in
    let digits = length start - length rest in
    if nat_lt 0 digits then number_by text digits rest else None

-- what follows the closing quote of a string (section 4.2.5), in which a backslash is before a quote or a backslash
unfoldable pub after_string : Bool → List ℕ → Option (List ℕ)
after_string escaped [] = None
after_string true (b ∷ s) = if b == 34 || b == 92 then after_string false s else None
after_string false (b ∷ s) =
    if b == 34 then Some s
    else (if b == 92 then after_string true s else (if is_printable b then after_string false s else None))

-- what a text has before the last byte before this end of it
abbrev pub inside : List ℕ → List ℕ → List ℕ
inside s rest = take (length s - length rest - 1) s

abbrev pub string : List ℕ → Option Reading
string s = option_map (λ rest. record { value = Text (inside s rest); rest = rest }) (after_string false s)

-- the colon that ends a byte sequence (section 4.2.7)
abbrev pub after_colon : List ℕ → Option Reading
after_colon [] = None
after_colon (b ∷ s) = if b == 58 then Some (record { value = Other; rest = s }) else None

-- `?1` and `?0` (section 4.2.8)
abbrev pub boolean : List ℕ → Option Reading
boolean [] = None
boolean (b ∷ s) =
    if b == 49 then Some (record { value = Boolean true; rest = s })
    else (if b == 48 then Some (record { value = Boolean false; rest = s }) else None)

-- which type an item has shows in its first byte
abbrev pub bare_item : List ℕ → Option Reading
bare_item [] = None
bare_item (b ∷ s) =
    if b == 45 || is_ascii_digit b then number (b ∷ s)
    else (if b == 34 then string s
    else (if begins_token b then Some (record { value = Other; rest = after_run Token s })
    else (if b == 58 then after_colon (after_run Base64 s)
    else (if b == 63 then boolean s else None))))

abbrev pub rest_of : Reading → List ℕ
rest_of reading = reading.rest

-- ---- what is repeated

-- what one step makes of a text: that was the last one, and this follows; it is malformed; or one more may follow
pub data Step : Type 0 where
  Ends : List ℕ → Step
  Fails : Step
  Goes : List ℕ → Step

abbrev pub led : Step → (List ℕ → Option (List ℕ)) → Option (List ℕ)
led (Ends rest) next = Some rest
led Fails next = None
led (Goes rest) next = next rest

-- what follows the last step, if there are fewer than so many
unfoldable pub repeated : (List ℕ → Step) → ℕ → List ℕ → Option (List ℕ)
repeated step zero text = None
repeated step (suc n) text = led (step text) (λ rest. repeated step n rest)

-- Each step takes a byte at least.
abbrev pub after_all : (List ℕ → Step) → List ℕ → Option (List ℕ)
after_all step text = repeated step (suc (length text)) text

-- a step that was made, or wasn't
abbrev pub going : Option (List ℕ) → Step
going (Some rest) = Goes rest
going None = Fails

-- ---- parameters (section 4.2.3.2)

-- what follows the value of a parameter, if it has one
abbrev pub after_argument : List ℕ → Option (List ℕ)
after_argument [] = Some []
after_argument (b ∷ s) = if b == 61 then option_map rest_of (bare_item s) else Some (b ∷ s)

-- what follows a parameter, behind its semicolon
abbrev pub after_parameter : List ℕ → Option (List ℕ)
after_parameter s = option_and_then after_argument (after_key (after_run Space s))

abbrev pub parameter_step : List ℕ → Step
parameter_step [] = Ends []
parameter_step (b ∷ s) = if b == 59 then going (after_parameter s) else Ends (b ∷ s)

abbrev pub after_parameters : List ℕ → Option (List ℕ)
after_parameters = after_all parameter_step

-- ---- inner lists (section 4.2.1.2)

-- what follows an item and its parameters
abbrev pub after_item : List ℕ → Option (List ℕ)
after_item s = option_and_then (λ reading. after_parameters reading.rest) (bare_item s)

-- after an item of an inner list comes a space or the end of the list
abbrev pub bounded : List ℕ → Option (List ℕ)
bounded [] = None
bounded (b ∷ s) = if b == 32 || b == 41 then Some (b ∷ s) else None

-- behind spaces, the end of an inner list or one more item
abbrev pub inner_by : List ℕ → Step
inner_by [] = Fails
inner_by (b ∷ s) = if b == 41 then Ends s else going (option_and_then bounded (after_item (b ∷ s)))

abbrev pub inner_step : List ℕ → Step
inner_step s = inner_by (after_run Space s)

-- what follows an inner list, behind its first parenthesis
abbrev pub after_inner : List ℕ → Option (List ℕ)
after_inner = after_all inner_step
