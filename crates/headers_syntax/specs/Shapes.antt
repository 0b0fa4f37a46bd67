-- Grammars that many headers share, by what a header stores. Their laws are in proofs/ShapeLemmas.
use Rattle.std.specs.Prelude.{ℕ, Bool, List, [], ◌∷◌, Option, Some, None, decimal, bytes_eq, if◌then◌else◌}
use Rattle.std.specs.Option.{option_and_then}
use Rattle.headers_syntax.{specs.Date.{date, fixdate}, specs.Lines.{Line, first_line, only_line, some_lines}}
use Rattle.headers_syntax.{specs.Number.number, specs.EntityTag.is_tag, specs.Text.is_text, specs.HeaderLaws.Grammar}

-- the field line, if it passes a test
abbrev pub line_if : (Line → Bool) → Line → Option Line
line_if test line = if test line then Some line else None

-- the field line, if it is text
abbrev pub text_line : Line → Option Line
text_line line = line_if is_text line

-- the word, if the field line is the word, byte for byte
abbrev pub word_line : Line → Line → Option Line
word_line word line = if bytes_eq line word then Some word else None

-- the field line, if it is an entity tag
abbrev pub tag_line : Line → Option Line
tag_line line = line_if is_tag line

module _ {V A : Type 0} where
  -- `pick` picks one of the field lines, `read` decodes it, and `write` encodes a value as a field line
  abbrev pub one_line : (V → A) → (List Line → Option Line) → (Line → Option A) → (A → Line) → Grammar V A
  one_line kept pick read write =
      record {
        kept = kept;
        value_of = λ lines. option_and_then read (pick lines);
        lines_of_value = λ a. write a ∷ [];
      }

module _ {V : Type 0} where
  -- the header stores the first field line, whatever it is, and encodes to it
  abbrev pub first_kept : (V → Line) → Grammar V Line
  first_kept kept =
      record {
        kept = kept;
        value_of = first_line;
        lines_of_value = λ line. line ∷ [];
      }

  -- the only field line is a number, which is encoded in decimal
  abbrev pub only_number : (V → ℕ) → Grammar V ℕ
  only_number kept = one_line kept only_line number decimal

  -- the only field line is text, which the header stores and encodes to
  abbrev pub only_text : (V → Line) → Grammar V Line
  only_text kept = one_line kept only_line text_line (λ line. line)

  -- the only field line is the word, and so is the encoding
  abbrev pub only_word : Line → (V → Line) → Grammar V Line
  only_word word kept = one_line kept only_line (word_line word) (λ line. line)

  -- the first field line is the word, and so is the encoding
  abbrev pub first_word : Line → (V → Line) → Grammar V Line
  first_word word kept = one_line kept first_line (word_line word) (λ line. line)

  -- the header stores all field lines, of which there is at least one, and encodes to them
  abbrev pub all_kept : (V → List Line) → Grammar V (List Line)
  all_kept kept =
      record {
        kept = kept;
        value_of = some_lines;
        lines_of_value = λ lines. lines;
      }

  -- the only field line is a date, which is encoded as IMF-fixdate
  abbrev pub only_date : (V → ℕ) → Grammar V ℕ
  only_date kept = one_line kept only_line date fixdate

  -- the only field line is an entity tag, which the header stores and encodes to
  abbrev pub only_tag : (V → Line) → Grammar V Line
  only_tag kept = one_line kept only_line tag_line (λ line. line)
