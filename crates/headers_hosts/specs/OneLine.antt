-- Headers of one field line, which a relation connects to their value.
use Rattle.std.{specs.Prelude.{◌≡◌, List, [], ◌∷◌, Option, Some, Result, refl}, proofs.Common.{sym, ◌∙◌, ap, subst}}
use Rattle.headers_syntax.{specs.Lines.Line, specs.DecodesTo.DecodesTo, specs.declared.error.Refused.Refused}
use Rattle.headers_syntax.specs.HeaderLaws.{HeaderLaws}

-- both values are the same, byte for byte
abbrev pub Same : {V : Type 0} → V → V → Type 0
Same v w = v ≡ w

module _ {V : Type 0} (pick : List Line → Option Line) (Reads : Line → V → Type 0) where
  -- the field line that is picked decodes to v
  abbrev pub ReadsLine : List Line → V → Type 0
  ReadsLine lines v = (line : Line) × (pick lines ≡ Some line) × Reads line v

module _ {V : Type 0} (write : V → Line) where
  -- the encoding is one field line
  abbrev pub written_line : V → List Line
  written_line v = write v ∷ []

module _ {V : Type 0} (pick : List Line → Option Line) (Reads : Line → V → Type 0) (write : V → Line) where
  -- all laws follow from facts about one field line
  pub line_laws : ((line : Line) → pick (line ∷ []) ≡ Some line)
      → ((line : Line) (v w : V) → Reads line v → Reads line w → v ≡ w)
      → ((line : Line) (v : V) → Reads line v → Reads (write v) v)
      → HeaderLaws Same (ReadsLine pick Reads) (written_line write)
  line_laws single once back =
      record {
        same_refl = λ v. refl;
        same_sym = λ v w e. sym e;
        same_trans = λ u v w e f. e ∙ f;
        reads_same = λ lines v w e h. subst (ReadsLine pick Reads lines) e h;
        writes_same = λ v w e. ap (written_line write) e;
        reads_once = λ lines v w h k.
            let same : h.0 ≡ k.0 = cc (h.1, k.1) in
            once k.0 v w (subst (λ (line : Line). Reads line v) same h.2) k.2;
        reads_back = λ lines v h. (write v, single (write v), back h.0 v h.2);
      }

-- a field line decodes to this result: to a value only if it encodes it, to `Invalid` only if it encodes none
abbrev pub LineDecodesTo : {V E : Type 0} → (Line → V → Type 0) → Line → Result V (Refused E) → Type 0
LineDecodesTo Reads line r = DecodesTo (λ _ v. Reads line v) [] r
