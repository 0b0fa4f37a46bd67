-- The laws of the header `max-forwards`.
use Rattle.std.{specs.Prelude.{◌≡◌, ℕ, List, Option, Some, None, refl}, proofs.Common.{sym, ◌∙◌, ap, subst}}
use Rattle.headers.{specs.Lines.Line, specs.HeaderLaws.HeaderLaws, specs.ShapeLemmas.only_number_back}
use Rattle.headers_user.specs.MaxForwards.{max_forwards_reads, max_forwards_writes}

reads_once : (lines : List Line) (v w : Option ℕ) → max_forwards_reads lines v → max_forwards_reads lines w → v ≡ w
reads_once lines None w h k = absurd h
reads_once lines (Some m) None h k = absurd k
reads_once lines (Some m) (Some n) h k = cc (h, k)

reads_back : (lines : List Line) (v : Option ℕ) → max_forwards_reads lines v
    → max_forwards_reads (max_forwards_writes v) v
reads_back lines None h = h
reads_back lines (Some n) h = only_number_back (λ (m : ℕ). m) lines n h

pub max_forwards_laws : HeaderLaws ◌≡◌ max_forwards_reads max_forwards_writes
max_forwards_laws =
    record {
      same_refl = λ v. refl;
      same_sym = λ v w e. sym e;
      same_trans = λ u v w e f. e ∙ f;
      reads_same = λ lines v w e h. subst (max_forwards_reads lines) e h;
      writes_same = λ v w e. ap max_forwards_writes e;
      reads_once = reads_once;
      reads_back = reads_back;
    }
