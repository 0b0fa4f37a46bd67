-- The text that a `Mime` stores.
use Rattle.std.specs.Prelude.{◌≡◌, ⊤, ℕ, List, [], ◌∷◌, codes, Bool, IsTrue, bytes_eq, Result, Ok, Err}
use Rattle.std.specs.List.{list_any}
use Rattle.headers_syntax.{specs.declared.error.Refused.Refused, specs.declared.error.Refused.TheVariants.Invalid}
use Rattle.headers_syntax.specs.declared.error.Refused.TheVariants.{Memory}
use Rattle.headers_mime.specs.MediaType.{MediaType, IsMediaType, canonical, IsCanonical}
use Rattle.headers_mime.{specs.declared.mime.Text.Text, specs.declared.mime.Text.TheVariants.{Known, Read}}

abbrev pub text_bytes : Text → List ℕ
text_bytes (Known text) = text.now
text_bytes (Read value) = value.bytes

-- the texts of the constants, in order
abbrev pub known_texts : List (List ℕ)
known_texts =
    codes "application/json" ∷
    codes "text/plain" ∷
    codes "text/plain; charset=utf-8" ∷
    codes "text/html" ∷
    codes "text/xml" ∷
    codes "application/x-www-form-urlencoded" ∷
    codes "image/jpeg" ∷
    codes "image/png" ∷
    codes "application/octet-stream" ∷
    []

-- the text is that of one of the constants
abbrev pub is_known : List ℕ → Bool
is_known text = list_any (λ (known : List ℕ). bytes_eq known text) known_texts

-- the text that a media type may store: that of a constant, or a canonical text
abbrev pub IsMimeText : Text → Type 0
IsMimeText (Known text) = IsTrue (is_known text.now)
IsMimeText (Read value) = IsCanonical value.bytes

-- the result of a parser: the canonical text of what it parsed; `Invalid` only if the text is no media type
abbrev pub ReadsMime : {E : Type 0} → List ℕ → Result (List ℕ) (Refused E) → Type 0
ReadsMime text (Ok mime) = (m : MediaType) × IsMediaType text m × (mime ≡ canonical m)
ReadsMime text (Err (Invalid e)) = (m : MediaType) → ¬ (IsMediaType text m)
ReadsMime text (Err (Memory e)) = ⊤
