-- What goes by the items of a value stays the same if its lines are joined or split.
use Rattle.headers_items.{proofs.CutLemmas.{HasItemsOf-merge, items_cut_at, items_of_pieces}, specs.Answers.GoesByItems}
use Rattle.headers_items.specs.{Answers.{SameAnswers, SurvivesCuts}, CutLaw.AreCuts, Entries.{entries, line_entries}}
use Rattle.headers_items.specs.{ItemsState.is_entry, Merge.merge, Places.{comma, items, pieces, semicolon}}
use Rattle.headers_items.specs.Separator.{IsSeparator, comma_is_separator, semicolon_is_separator}
use Rattle.{headers_syntax.specs.{Lines.Line, Text.is_text}, std.proofs.Common.{List, [], ap, append-nil, arith}}
use Rattle.std.proofs.{Common.{filter, refl, sym, true, ℕ, ◌∙◌, ◌∷◌, ◌≡◌}, lemmas.Grind.common_steps}
use Rattle.std.{proofs.lemmas.List.Elements.filter-append, specs.List.flat_map}

-- equal values have the same answers
pub same_answers : {A R : Type 0} (answers : A → R → Type 0) (v w : A) → v ≡ w → SameAnswers answers v w
same_answers answers v w e result = grind arith

-- answers over the items go by them
pub goes_by_items : {R : Type 0} (separator : ℕ) (answers : List (List ℕ) → R → Type 0)
    → GoesByItems separator (λ value. answers (items separator value))
goes_by_items separator answers v w e = same_answers answers (items separator v) (items separator w) e

-- what goes by items survives cuts
pub survives : {R : Type 0} (separator : ℕ) (answers : List ℕ → R → Type 0) → IsSeparator separator
    → GoesByItems separator answers → SurvivesCuts separator (λ lines. answers (merge separator lines))
survives separator answers f goes = grind (arith, merge, items_cut_at)

-- answers over the items, by comma and by semicolon
pub survives_commas : {R : Type 0} (answers : List (List ℕ) → R → Type 0)
    → SurvivesCuts comma (λ lines. answers (items comma (merge comma lines)))
survives_commas answers =
    survives comma (λ value. answers (items comma value)) comma_is_separator (goes_by_items comma answers)

pub survives_semicolons : {R : Type 0} (answers : List (List ℕ) → R → Type 0)
    → SurvivesCuts semicolon (λ lines. answers (items semicolon (merge semicolon lines)))
survives_semicolons answers = survives semicolon (λ value. answers (items semicolon value)) semicolon_is_separator
    (goes_by_items semicolon answers)

-- entries are items of the lines
entries_items : (lines : List Line) → entries lines ≡ filter is_entry (flat_map (items comma) lines)
entries_items [] = refl
entries_items (line ∷ lines) = grind (arith, common_steps, filter-append, entries_items lines)

-- the entries of one line, of the lines that it was cut into, and of the lines that were merged to it
entries_line : (line : Line) → entries (line ∷ []) ≡ filter is_entry (items comma line)
entries_line line = append-nil (line_entries line)

entries_cut : (s places : List ℕ) → is_text s ≡ true → AreCuts comma s 0 places
    → entries (pieces s 0 places) ≡ entries (s ∷ [])
entries_cut s places t cuts = entries_items (pieces s 0 places) ∙ ap (filter is_entry)
    (items_of_pieces comma s places comma_is_separator t cuts).1 ∙ sym (entries_line s)

entries_merged : (line : Line) (lines : List Line) → flat_map (items comma) (line ∷ lines) ≡ items comma
    (merge comma (line ∷ lines)) → entries (line ∷ lines) ≡ entries (merge comma (line ∷ lines) ∷ [])
entries_merged line lines e = grind (arith, common_steps, entries_items, filter, entries_line, merge)

-- answers over the entries of lines survive cuts, though each line stands by itself
pub entries_survive : {R : Type 0} (answers : List (List ℕ) → R → Type 0)
    → SurvivesCuts comma (λ lines. answers (entries lines))
entries_survive answers = record {
  cut = grind (arith, entries, entries_cut);
  merged = λ line lines t even. same_answers answers (entries (line ∷ lines)) (entries (merge comma (line ∷ lines) ∷
      [])) (entries_merged line lines (sym (HasItemsOf-merge comma (line ∷ lines) comma_is_separator t even)));
}
