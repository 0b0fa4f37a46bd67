-- The laws of the header `content-length`.
use Rattle.std.{specs.Prelude.{◌≡◌, ℕ, List, [], ◌∷◌, Some, decimal, refl}, proofs.Common.{sym, ◌∙◌, ap, arith}}
use Rattle.headers_syntax.{specs.Lines.Line, specs.HeaderLaws.HeaderLaws, proofs.NumberLemmas.number-decimal}
use Rattle.headers_syntax.proofs.NumberLemmas.{number-lt}
use Rattle.headers_values.{specs.declared.content_length.ContentLength.ContentLength, specs.ContentLength.AllWrite}
use Rattle.headers_values.specs.ContentLength.{content_length_same, content_length_reads, content_length_writes}

all_write_same : (lines : List Line) (m n : ℕ) → m ≡ n → AllWrite m lines → AllWrite n lines
all_write_same [] m n e h = tt
all_write_same (line ∷ lines) m n e h = (h.0 ∙ ap (λ (k : ℕ). Some k) e, all_write_same lines m n e h.1)

content_length_reads_same : (lines : List Line) (v w : ContentLength) → content_length_same v w
    → content_length_reads lines v → content_length_reads lines w
content_length_reads_same lines v w e h = (h.0, all_write_same lines v.0 w.0 e h.1)

content_length_reads_once : (lines : List Line) (v w : ContentLength) → content_length_reads lines v
    → content_length_reads lines w → content_length_same v w
content_length_reads_once [] v w h k = absurd (omega (arith, h.0))
content_length_reads_once (line ∷ lines) v w h k = cc (h.1.0, k.1.0)

content_length_reads_back : (lines : List Line) (v : ContentLength) → content_length_reads lines v
    → content_length_reads (content_length_writes v) v
content_length_reads_back [] v h = absurd (omega (arith, h.0))
content_length_reads_back (line ∷ lines) v h = (omega arith, (number-decimal v.0 (number-lt line v.0 h.1.0), tt))

pub content_length_laws : HeaderLaws content_length_same content_length_reads content_length_writes
content_length_laws =
    record {
      same_refl = λ v. refl;
      same_sym = λ v w e. sym e;
      same_trans = λ u v w e f. e ∙ f;
      reads_same = content_length_reads_same;
      writes_same = λ v w e. ap (λ (n : ℕ). decimal n ∷ []) e;
      reads_once = content_length_reads_once;
      reads_back = content_length_reads_back;
    }
