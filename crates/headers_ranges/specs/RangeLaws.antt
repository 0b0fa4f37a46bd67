-- The laws of the header `range`.
use Rattle.std.{specs.Prelude.{◌≡◌, Some, None, refl}, proofs.Common.{inl, inr}, proofs.lemmas.Bool.cases_Bool}
use Rattle.headers_syntax.{specs.HeaderLaws.{HeaderLaws, SameBy, ReadsBy, written_by}, specs.Lines.first_line}
use Rattle.headers_syntax.proofs.ShapeLemmas.{ReadsBackLine, one_line_laws}
use Rattle.headers_ranges.{specs.ByteRanges.{is_range_line, range_line}, specs.Range.range_grammar}

-- a stored field line is decoded again
range_back : ReadsBackLine range_line (λ line. line)
range_back line kept e =
    elim (cases_Bool (is_range_line line)) [
      | inl y ↦ let some : Some line ≡ Some kept = rw y at e in let same : line
          ≡ kept = cc some in rw (← same, y) refl
      | inr n ↦ let none : None ≡ Some kept = rw n at e in absurd (cc none)
    ]

pub range_laws : HeaderLaws (SameBy range_grammar) (ReadsBy range_grammar) (written_by range_grammar)
range_laws = one_line_laws range_grammar.kept first_line range_line (λ line. line) (λ line. refl) range_back
