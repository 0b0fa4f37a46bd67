-- How the origin is asked whether a stored response is still good (RFC 9111, section 4.3.1).
use Rattle.std.specs.Prelude.{◌≡◌, ◌≢◌, ◌⊎◌, ℕ, List, [], ◌∷◌, ◌-◌, ◌&&◌, Option, codes, option_and_then, option_map}
use Rattle.std.specs.Prelude.{nat_le, nat_lt, if◌then◌else◌}
use Rattle.headers.specs.{Date.fixdate, LineMap.{Field, LineMap}, Lines.{Line, only_line}, Shapes.only_tag, Text.trim}
use Rattle.{headers.specs.Typed.ReadsNothing, rfc_values.specs.{Calendar.unix_epoch, Date.timestamp}}
use Rattle.decide_preconditions.specs.Fields.{lines_sent}

-- the entity tag of a response, if ETag is one
abbrev pub tag_lines : LineMap → List Line
tag_lines response =
    lines_sent (λ (tag : Line). tag) ((only_tag {V = Line} (λ tag. tag)).value_of (response (codes "etag")))

-- the only field line of Last-Modified with the date that it is, if it is one (RFC 9110, section 5.6.7)
abbrev pub dated_line : ℕ → LineMap → Option (Line × ℕ)
dated_line received response =
    option_and_then (λ line. option_map (λ second. (line, second)) (timestamp received (trim line)))
    (only_line (response (codes "last-modified")))

-- a date from 1970 to 9999 is sent as an IMF-fixdate, and any other as it came
abbrev pub sent_date : Line → ℕ → Line
sent_date line second =
    if nat_le unix_epoch second && nat_lt (second - unix_epoch) 253_402_300_800 then fixdate (second - unix_epoch)
    else line

abbrev pub since_lines : ℕ → LineMap → List Line
since_lines received response =
    lines_sent (λ (dated : Line × ℕ). sent_date dated.0 dated.1) (dated_line received response)

-- The fields by which a request validates a response: If-None-Match has its entity tag, and If-Modified-Since the
-- date of its Last-Modified. A validator that the response doesn't have isn't sent, nor is the request's own field.
abbrev pub validation_fields : ℕ → LineMap → List Field
validation_fields received response =
    (codes "if-none-match", tag_lines response) ∷ (codes "if-modified-since", since_lines received response) ∷ []

-- the request with these two fields in place of its own, and its other fields
pub record IsConditional (received : ℕ) (request response validated : LineMap) : Type 0 where
  pub tag : validated (codes "if-none-match") ≡ tag_lines response
  pub date : validated (codes "if-modified-since") ≡ since_lines received response
  pub others : (name : List ℕ) → codes "if-none-match" ≢ name → codes "if-modified-since" ≢ name
      → validated name ≡ request name

-- field lines are the encoding of the value that others decode to, or there are none if those decode to no value
abbrev pub IsCanonical : {V : Type 0} → (List Line → V → Type 0) → (V → List Line) → List Line → List Line → Type 0
IsCanonical {V} reads writes from lines =
    ((v : V) × reads from v × (lines ≡ writes v)) ⊎ (ReadsNothing reads from × (lines ≡ []))
