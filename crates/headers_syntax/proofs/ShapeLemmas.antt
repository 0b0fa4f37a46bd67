-- The laws of the grammars that many headers share.
use Rattle.headers_syntax.proofs.{DateLemmas.date_back, NumberLemmas.{number-decimal, number-lt}}
use Rattle.headers_syntax.{proofs.OptionLemmas.then_parts, specs.{Date.{date, fixdate}, EntityTag.is_tag}}
use Rattle.headers_syntax.specs.{HeaderLaws.{HeaderLaws, ReadsBack, ReadsBy, SameBy, laws_by, written_by}, Lines.Line}
use Rattle.headers_syntax.specs.{Lines.{only_line, some_lines}, Number.number, Shapes.{all_kept, first_kept}}
use Rattle.headers_syntax.specs.Shapes.{first_word, line_if, one_line, only_date, only_number, only_tag, only_text}
use Rattle.headers_syntax.specs.{Shapes.{only_word, tag_line, text_line, word_line}, Text.is_text}
use Rattle.std.proofs.{Common.{Bool, List, Option, Some, [], arith, refl, ℕ, ◌∷◌, ◌≡◌}, lemmas.Grind.common_steps}
use Rattle.std.{proofs.lemmas.Slice.Eq.bytes_eq-Decides, specs.Prelude.decimal}

-- what is written of a value that a line reads, reads as that value
abbrev pub ReadsBackLine : {A : Type 0} → (Line → Option A) → (A → Line) → Type 0
ReadsBackLine {A} read write = (line : Line) (a : A) → read line ≡ Some a → read (write a) ≡ Some a

pub number_back : ReadsBackLine number decimal
number_back line n e = number-decimal n (number-lt line n e)

-- a line that passes a test, kept and written
line_if_back : (test : Line → Bool) → ReadsBackLine (line_if test) (λ line. line)
line_if_back test line kept e = grind arith

pub text_back : ReadsBackLine text_line (λ line. line)
text_back = line_if_back is_text

pub word_back : (word : Line) → ReadsBackLine (word_line word) (λ line. line)
word_back word line w e = grind (arith, bytes_eq-Decides word word)

pub tag_back : ReadsBackLine tag_line (λ line. line)
tag_back = line_if_back is_tag

kept_again : (lines kept : List Line) → some_lines lines ≡ Some kept → some_lines kept ≡ Some kept
kept_again lines kept h = grind arith

module _ {V A : Type 0} where
  -- a shape of one line rests on its reader and its writer alone
  pub one_line_back : (kept : V → A) (pick : List Line → Option Line) (read : Line → Option A) (write : A → Line)
      → ((line : Line) → pick (line ∷ []) ≡ Some line) → ReadsBackLine read write
      → ReadsBack (one_line kept pick read write)
  one_line_back kept pick read write single back lines a h = grind (arith, common_steps, then_parts)

  pub one_line_laws : (kept : V → A) (pick : List Line → Option Line) (read : Line → Option A) (write : A → Line)
      → ((line : Line) → pick (line ∷ []) ≡ Some line) → ReadsBackLine read write → HeaderLaws (SameBy (one_line kept
      pick read write)) (ReadsBy (one_line kept pick read write)) (written_by (one_line kept pick read write))
  one_line_laws kept pick read write single back = grind (arith, common_steps, laws_by, one_line, one_line_back)

module _ {V : Type 0} where
  pub first_kept_back : (kept : V → Line) → ReadsBack (first_kept kept)
  first_kept_back kept lines line h = refl

  pub only_number_back : (kept : V → ℕ) → ReadsBack (only_number kept)
  only_number_back kept = one_line_back kept only_line number decimal (λ line. refl) number_back

  pub only_date_back : (kept : V → ℕ) → ReadsBack (only_date kept)
  only_date_back kept = one_line_back kept only_line date fixdate (λ line. refl) date_back

  pub only_text_back : (kept : V → Line) → ReadsBack (only_text kept)
  only_text_back kept = one_line_back kept only_line text_line (λ line. line) (λ line. refl) text_back

  pub only_tag_back : (kept : V → Line) → ReadsBack (only_tag kept)
  only_tag_back kept = one_line_back kept only_line tag_line (λ line. line) (λ line. refl) tag_back

  pub only_word_laws : (word : Line) (kept : V → Line)
      → HeaderLaws (SameBy (only_word word kept)) (ReadsBy (only_word word kept)) (written_by (only_word word kept))
  only_word_laws word kept = grind (arith, word_back word, one_line_laws)

  pub first_word_laws : (word : Line) (kept : V → Line)
      → HeaderLaws (SameBy (first_word word kept)) (ReadsBy (first_word word kept)) (written_by (first_word word kept))
  first_word_laws word kept = grind (arith, word_back word, one_line_laws)

  pub all_kept_laws : (kept : V → List Line)
      → HeaderLaws (SameBy (all_kept kept)) (ReadsBy (all_kept kept)) (written_by (all_kept kept))
  all_kept_laws kept = laws_by (all_kept kept) kept_again
