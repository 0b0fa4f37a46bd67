-- Flags among the entries of several lines.
use Rattle.std.proofs.Common.{◌≡◌, ◌∙◌, ◌||◌, ℕ, Bool, List, [], ◌∷◌, ap, refl, sym}
use Rattle.std.{proofs.lemmas.List.Folds.list_any-append, specs.List.list_any}
use Rattle.{http_header.specs.FieldValue.FieldValue, headers.specs.{CacheControl.is_set, Lines.lines_of}}
use Rattle.{headers_items.specs.Entries.{entries, line_entries}, headers_syntax.specs.AsciiCase.same_name}

module _ (flag : List ℕ) where
  -- a line has the flag, as a test
  abbrev pub in_line : FieldValue → Bool
  in_line line = is_set flag (line_entries line.bytes)

  pub set_in_lines : (lines : List FieldValue) → list_any in_line lines ≡ is_set flag (entries (lines_of lines))
  set_in_lines [] = refl
  set_in_lines (line ∷ lines) = ap (λ (b : Bool). is_set flag (line_entries line.bytes) || b) (set_in_lines lines)
      ∙ sym (list_any-append (λ (entry : List ℕ). same_name entry flag) (line_entries line.bytes)
      (entries (lines_of lines)))
