-- The parser of media types, as functions. That it agrees with the grammar is proved in proofs/ReadingLemmas.
use Rattle.std.specs.Prelude.{◌≡◌, ℕ, zero, suc, ◌+◌, Bool, false, ◌&&◌, not, ◌==◌, List, [], ◌∷◌, ◌++◌, length, take}
use Rattle.std.{specs.Prelude.{drop, Option, Some, None, map, option_map, if◌then◌else◌}, specs.List.prefix_len}
use Rattle.std.{specs.List.cons_option, specs.Option.option_and_then}
use Rattle.http_header.specs.Token.{is_token_byte, is_visible_or_blank}
use Rattle.headers_syntax.specs.Text.{quote, trim_start}
use Rattle.headers_mime.specs.MediaType.{semicolon, slash, equals, backslash, Parameter, MediaType, canonical}
use Rattle.headers_mime.specs.MediaType.{canonical_parameter, parameters_text}
use denote.Ref.{Bor}
use Rattle.std.specs.Prelude.{Result, Ok, Err, ⊤}
use Rattle.headers_syntax.specs.declared.error.Refused.{Refused}
use Rattle.headers_syntax.specs.declared.error.Refused.TheVariants.{Invalid, Memory}

-- how many bytes from here to the closing quote, which is included; `is_escaped`: the byte before is a backslash
abbrev pub quoted_len : Bool → List ℕ → Option ℕ
quoted_len is_escaped [] = None
quoted_len is_escaped (b ∷ s) =
    if b == quote && not is_escaped then Some 1
    else if is_visible_or_blank b then option_map (λ n. 1 + n) (quoted_len (b == backslash && not is_escaped) s)
    else None

-- the length of the token at the front, if there is one
abbrev pub token_len : List ℕ → Option ℕ
token_len s = let n = prefix_len is_token_byte s in if n == 0 then None else Some n

-- the length of the value at the front, if there is one
unfoldable pub value_len : List ℕ → Option ℕ
value_len [] = None
value_len (b ∷ s) = if b == quote then option_map (λ n. 1 + n) (quoted_len false s) else token_len (b ∷ s)

-- what follows this byte, if the bytes begin with it
abbrev pub after_byte : ℕ → List ℕ → Option (List ℕ)
after_byte c [] = None
after_byte c (b ∷ s) = if b == c then Some s else None

-- whether the first byte passes a test
abbrev pub begins_with : (ℕ → Bool) → List ℕ → Bool
begins_with test [] = false
begins_with test (b ∷ s) = test b

-- a text cut at a place
abbrev pub split_at : List ℕ → ℕ → List ℕ × List ℕ
split_at s n = (take n s, drop n s)

-- the token at the front, and what follows it
unfoldable pub read_token : List ℕ → Option (List ℕ × List ℕ)
read_token s = option_map (split_at s) (token_len s)

unfoldable pub read_value : List ℕ → Option (List ℕ × List ℕ)
read_value s = option_map (split_at s) (value_len s)

-- the parameter at the front, and what follows it
unfoldable pub read_parameter : List ℕ → Option (Parameter × List ℕ)
read_parameter s =
    option_and_then
    (λ (name : List ℕ × List ℕ).
    option_and_then
    (λ (s : List ℕ).
    option_map
    (λ (value : List ℕ × List ℕ). (record { name = name.0; value = value.0 }, value.1))
    (read_value s))
    (after_byte equals name.1))
    (read_token s)

-- a parameter or nothing, and what follows it without its leading blanks
unfoldable pub read_optional : List ℕ → Option (Option Parameter × List ℕ)
read_optional s =
    if begins_with is_token_byte s
    then option_map (λ (read : Parameter × List ℕ). (Some read.0, trim_start read.1)) (read_parameter s)
    else Some (None, s)

-- the same after a semicolon and blanks
unfoldable pub read_segment : List ℕ → Option (Option Parameter × List ℕ)
read_segment s = option_and_then (λ (s : List ℕ). read_optional (trim_start s)) (after_byte semicolon s)

-- the parameters of at most n segments that end the text
abbrev pub read_segments : ℕ → List ℕ → Option (List Parameter)
read_segments n [] = Some []
read_segments zero (b ∷ s) = None
read_segments (suc n) (b ∷ s) =
    option_and_then
    (λ (read : Option Parameter × List ℕ).
    option_map (λ (ps : List Parameter). cons_option read.0 ps) (read_segments n read.1))
    (read_segment (b ∷ s))

-- no text has more segments than bytes
unfoldable pub read_parameters : List ℕ → Option (List Parameter)
read_parameters s = read_segments (length s) s

-- the type, the subtype, and what follows them and blanks
unfoldable pub read_essence : List ℕ → Option (List ℕ × List ℕ × List ℕ)
read_essence s =
    option_and_then
    (λ (top_level : List ℕ × List ℕ).
    option_and_then
    (λ (s : List ℕ).
    option_map (λ (subtype : List ℕ × List ℕ). (top_level.0, subtype.0, trim_start subtype.1)) (read_token s))
    (after_byte slash top_level.1))
    (read_token (trim_start s))

-- the parts of a text, if it is a media type
unfoldable pub read_media : List ℕ → Option MediaType
read_media s =
    option_and_then
    (λ (read : List ℕ × List ℕ × List ℕ).
    option_map
    (λ (ps : List Parameter). record { top_level = read.0; subtype = read.1; parameters = ps })
    (read_parameters read.2))
    (read_essence s)

-- the canonical text of the parameters that end a text
abbrev pub canonical_rest : List ℕ → Option (List ℕ)
canonical_rest s =
    option_map (λ (ps : List Parameter). parameters_text (map canonical_parameter ps)) (read_parameters s)

-- the canonical text of a parameter, or of nothing
abbrev pub optional_canonical : Option Parameter → List ℕ
optional_canonical o = parameters_text (map canonical_parameter (cons_option o []))

-- the canonical text of a text, if it is a media type
abbrev pub canonical_of : List ℕ → Option (List ℕ)
canonical_of s = option_map canonical (read_media s)

-- the parsed value, and what follows it
abbrev pub read_shown : {A : Type 0} → A × Bor (List ℕ) → A × List ℕ
read_shown read = (read.0, read.1.now)

-- The result of a writer that parses as it writes: the new text follows the old bytes, or nothing parsed.
abbrev pub WritesBehind : {E : Type 0} → List ℕ → Option (List ℕ) → List ℕ → Result (Unit {0}) (Refused E) → Type 0
WritesBehind old read new (Ok x) = option_map (λ (t : List ℕ). old ++ t) read ≡ Some new
WritesBehind old read new (Err (Invalid e)) = read ≡ None
WritesBehind old read new (Err (Memory e)) = ⊤

-- the result of a parser: the parsed value, or `Invalid` because nothing parsed
abbrev pub GivesRead : {T E A : Type 0} → (T → A) → Option A → Result T (Refused E) → Type 0
GivesRead shown read (Ok x) = read ≡ Some (shown x)
GivesRead shown read (Err (Invalid e)) = read ≡ None
GivesRead shown read (Err (Memory e)) = ⊤

-- pieces of text
abbrev pub two_pieces : Bor (List ℕ) × Bor (List ℕ) → List ℕ × List ℕ
two_pieces pieces = (pieces.0.now, pieces.1.now)

abbrev pub three_pieces : Bor (List ℕ) × Bor (List ℕ) × Bor (List ℕ) → List ℕ × List ℕ × List ℕ
three_pieces pieces = (pieces.0.now, pieces.1.now, pieces.2.now)
