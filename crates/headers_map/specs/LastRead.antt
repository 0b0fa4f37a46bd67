-- The result of a typed read after steps, by the last step that changed its field.
use Rattle.std.specs.Prelude.{◌≡◌, ℕ, List, ⊤, Option, Some, None, Result, Ok, Err}
use Rattle.headers_syntax.{specs.Lines.{Line, lines_of}, specs.declared.error.Refused.Refused}
use Rattle.headers_syntax.specs.declared.error.Refused.TheVariants.{Invalid, Memory}
use Rattle.headers_map.{specs.Typed.IsTypedRead, specs.Canonical.IsCanonicalRead}
use Rattle.headers_map.{specs.declared.encoded.Encoded.Encoded, specs.declared.steps.Step.Step}
use Rattle.headers_map.specs.declared.steps.Step.TheVariants.{Put, Remove}

module _ {V : Type 0} (reads : List Line → V → Type 0) (writes : V → List Line) where
  -- the lines are the encoding of a value that was decoded from some lines
  pub record IsEncodingOf (lines : List Line) (v : V) : Type 0 where
    pub from : List Line
    pub was_read : reads from v
    pub written : lines ≡ writes v

-- the read returned the same value, unless an allocation failed
abbrev pub GivesSame : {V E : Type 0} → (V → V → Type 0) → V → Result (Option V) (Refused E) → Type 0
GivesSame same v (Ok None) = ⊥
GivesSame same v (Ok (Some w)) = same v w
GivesSame same v (Err (Invalid e)) = ⊥
GivesSame same v (Err (Memory e)) = ⊤

-- the encoding has these lines, unless an allocation failed
abbrev pub GivesLines : {E : Type 0} → List Line → Result (Option Encoded) (Refused E) → Type 0
GivesLines lines (Ok None) = ⊥
GivesLines lines (Ok (Some e)) = lines_of e.lines.items ≡ lines
GivesLines lines (Err (Invalid e)) = ⊥
GivesLines lines (Err (Memory e)) = ⊤

module _ {V E : Type 0} (same : V → V → Type 0) (reads : List Line → V → Type 0) (writes : V → List Line) where
  -- The lines of a `Put` are decoded, and give its value if they are an encoding. After a `Remove` there is no line. If
  -- no step changed the name, the lines from before are decoded.
  abbrev pub IsLastRead : List Line → Option Step → Result (Option V) (Refused E) → Type 0
  IsLastRead before None read = IsTypedRead reads before read
  IsLastRead before (Some (Put e)) read =
      IsTypedRead reads (lines_of e.lines.items) read
      × ((v : V) → IsEncodingOf reads writes (lines_of e.lines.items) v → GivesSame same v read)
  IsLastRead before (Some (Remove name)) read = read ≡ Ok None

module _ {V E : Type 0} (name : List ℕ) (reads : List Line → V → Type 0) (writes : V → List Line) where
  -- the same for `canonical`: an encoding comes back as it was put
  abbrev pub IsLastCanonical : List Line → Option Step → Result (Option Encoded) (Refused E) → Type 0
  IsLastCanonical before None read = IsCanonicalRead name reads writes before read
  IsLastCanonical before (Some (Put e)) read =
      IsCanonicalRead name reads writes (lines_of e.lines.items) read
      × ((v : V) → IsEncodingOf reads writes (lines_of e.lines.items) v → GivesLines (lines_of e.lines.items) read)
  IsLastCanonical before (Some (Remove other)) read = read ≡ Ok None
