-- The encodings of validators, and the request that sends them.
use Rattle.std.proofs.Common.{◌≡◌, ℕ, List, [], ◌∷◌, Option, Some, None, codes, refl, sym, ap, ◌∙◌, inl, inr}
use Rattle.headers.{specs.LineMap.{LineMap, set, set_all}, specs.Lines.Line}
use Rattle.decide_preconditions.{specs.Fields.lines_sent, proofs.FieldLemmas.set-other}
use Rattle.cache_policy.specs.Validating.{IsCanonical, IsConditional, tag_lines, validation_fields}

-- a value is encoded in one field line: that of the value that field lines decode to, if they decode to one
module _ {V A : Type 0} (value_of : List Line → Option A) (kept : V → A) (text : A → Line) (of : A → V)
    (back : (a : A) → kept (of a) ≡ a) (start : value_of [] ≡ None) where
  pub canonical-lines : (from lines : List Line)
      → IsCanonical (λ read v. value_of read ≡ Some (kept v)) (λ v. text (kept v) ∷ []) from lines
      → lines ≡ lines_sent text (value_of from)
  canonical-lines from lines h = elim h [
    | inl some ↦ some.2 ∙ sym (ap (lines_sent text) some.1)
    | inr nothing ↦ elim nothing.0 [
      | inl empty ↦
          nothing.1 ∙ sym (ap (λ (read : List Line). lines_sent text (value_of read)) empty
          ∙ ap (lines_sent text) start)
      | inr none ↦ nothing.1 ∙ sym (ap (lines_sent text) (absent none (value_of from) refl))
    ]
  ]
    where
      absent : ((v : V) → ¬ (value_of from ≡ Some (kept v))) → (read : Option A) → value_of from ≡ read
          → value_of from ≡ None
      absent none None e = e
      absent none (Some a) e = absurd (none (of a) (e ∙ ap (λ (k : A). Some k) (sym (back a))))

pub conditional : (received : ℕ) (request response : LineMap)
    → IsConditional received request response (set_all request (validation_fields received response))
conditional received request response = record {
  tag = refl;
  date = refl;
  others = λ name tag date. set-other (set request (codes "if-none-match", tag_lines response)) _ name date
      ∙ set-other request _ name tag;
}
