-- What doesn't change if the field lines of a list field are joined or split (RFC 9110, section 5.3).
use Rattle.std.{specs.Prelude.{◌≡◌, ◌↔◌, ℕ, true, List, [], ◌∷◌}, specs.List.list_all}
use Rattle.headers_syntax.{specs.Lines.Line, specs.Text.is_text}
use Rattle.headers_items.{specs.CutLaw.{AreCuts, EvenButLast}, specs.Merge.merge, specs.Places.{items, pieces}}

module _ {A R : Type 0} (answers : A → R → Type 0) where
  -- two values have the same answers
  abbrev pub SameAnswers : A → A → Type 0
  SameAnswers v w = (result : R) → answers v result ↔ answers w result

-- Two facts. A text that is cut at any choice of its counting places gives the same results as the text in one line.
-- Field lines of text, of which each but the last has an even number of quotes, give the same results as the one line
-- that joins them.
pub record SurvivesCuts {R : Type 0} (separator : ℕ) (answers : List Line → R → Type 0) : Type 0 where
  pub cut : (text places : List ℕ) → is_text text ≡ true → AreCuts separator text 0 places
      → SameAnswers answers (pieces text 0 places) (text ∷ [])
  pub merged : (line : Line) (lines : List Line) → list_all is_text (line ∷ lines) ≡ true → EvenButLast (line ∷ lines)
      → SameAnswers answers (line ∷ lines) (merge separator (line ∷ lines) ∷ [])

-- values with equal items have the same answers
abbrev pub GoesByItems : {R : Type 0} → ℕ → (List ℕ → R → Type 0) → Type 0
GoesByItems separator answers = (v w : List ℕ) → items separator v ≡ items separator w → SameAnswers answers v w
