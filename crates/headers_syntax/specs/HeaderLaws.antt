-- The laws of every header type, and header types whose grammar is a pair of functions.
use Rattle.std.{specs.Prelude.{◌≡◌, List, Option, Some, refl}, proofs.Common.{sym, ◌∙◌, ap}}
use Rattle.headers_syntax.specs.Lines.{Line}

-- The laws of a header type. `same` is an equivalence, and decoding and encoding respect it. Field lines decode to at
-- most one value. The encoding of a decoded value decodes to the same value.
pub record HeaderLaws {V : Type 0} (same : V → V → Type 0) (reads : List Line → V → Type 0) (writes : V → List Line) :
    Type 0 where
  pub same_refl : (v : V) → same v v
  pub same_sym : (v w : V) → same v w → same w v
  pub same_trans : (u v w : V) → same u v → same v w → same u w
  pub reads_same : (lines : List Line) (v w : V) → same v w → reads lines v → reads lines w
  pub writes_same : (v w : V) → same v w → writes v ≡ writes w
  pub reads_once : (lines : List Line) (v w : V) → reads lines v → reads lines w → same v w
  pub reads_back : (lines : List Line) (v : V) → reads lines v → reads (writes v) v

-- A grammar: the abstract value that a header stores, the abstract value that field lines decode to, if any, and the
-- field lines that encode an abstract value.
pub record Grammar (V A : Type 0) : Type 0 where
  pub kept : V → A
  pub value_of : List Line → Option A
  pub lines_of_value : A → List Line

module _ {V A : Type 0} (grammar : Grammar V A) where
  -- both headers store the same abstract value
  abbrev pub SameBy : V → V → Type 0
  SameBy v w = grammar.kept v ≡ grammar.kept w

  -- the field lines decode to the abstract value that v stores
  abbrev pub ReadsBy : List Line → V → Type 0
  ReadsBy lines v = grammar.value_of lines ≡ Some (grammar.kept v)

  -- the encoding of v
  abbrev pub written_by : V → List Line
  written_by v = grammar.lines_of_value (grammar.kept v)

  -- round trip: the encoding of an abstract value that field lines decode to decodes to it again
  abbrev pub ReadsBack : Type 0
  ReadsBack = (lines : List Line) (a : A) → grammar.value_of lines ≡ Some a
      → grammar.value_of (grammar.lines_of_value a) ≡ Some a

  -- all laws follow from the round trip
  pub laws_by : ReadsBack → HeaderLaws SameBy ReadsBy written_by
  laws_by back =
      record {
        same_refl = λ v. refl;
        same_sym = λ v w e. sym e;
        same_trans = λ u v w e f. e ∙ f;
        reads_same = λ lines v w e h. h ∙ ap (λ (a : A). Some a) e;
        writes_same = λ v w e. ap grammar.lines_of_value e;
        reads_once = λ lines v w h k. cc (h, k);
        reads_back = λ lines v h. back lines (grammar.kept v) h;
      }
