use Rattle.std.{proofs.Common.{◌≡◌, List, ℕ, Err, sym, ◌∙◌, subst}, proofs.lemmas.Result.err_from_is_err_and}
use Rattle.headers_section.{specs.Answer.IsRun, specs.Section.HasTooManyFields, specs.CanonicalText.IsCanonicalText}
use Rattle.headers_section.{specs.declared.status.RunError.TheVariants.Io, proofs.RunLemmas.{wrote_text, began_text}}
use Rattle.headers_section.proofs.runs.run_with_keys.Goals.{In-Some}
use Rattle.headers_section.proofs.runs.run_with_keys.Goals as goal

-- the text that was made is that of the input
made : (g : _) (c : In-Some g)
    → IsCanonicalText c.in_ok-input.input.items c.in-Some.text.bytes.items c.in-Some.text.some_refused
made g c =
    let text = c.in-Some.text in
    let of_bytes : IsCanonicalText c.in_ok-from_vec.field-0 text.bytes.items text.some_refused =
    rw c.in-Some.is at c.in_ok-text.ensures.text in
    rw c.in_ok-from_vec.ensures.ok at of_bytes

-- a map has room for its fields
fits : (g : _) (c : In-Some g) → ¬ (HasTooManyFields c.in_ok-input.input.items)
fits g c =
    let of_bytes : ¬ (HasTooManyFields c.in_ok-from_vec.field-0) = rw c.in-Some.is at c.in_ok-text.ensures.fits in
    subst (λ (bytes : List ℕ). ¬ (HasTooManyFields bytes)) c.in_ok-from_vec.ensures.ok of_bytes

pub returns : goal.returns
returns g c =
    let input = c.in_ok-input in
    let all = (goal.at.returns g c).In-Some in
    let canonical = made g all in
    wrote_text _ _ _ _ input.input.items _ _ input.ensures.read input.ensures.end input.ensures.limit
    (rw c.if-text.false at canonical) (fits g all) (rw (← c.as_slice.ensures.value) c.in_ok-write_text.ensures.ok)

pub returns-then-text : goal.returns-then-text
returns-then-text g c =
    let input = c.in_ok-input in
    let all = (goal.at.returns-then-text g c).In-Some in
    let canonical = made g all in
    wrote_text _ _ _ _ input.input.items _ _ input.ensures.read input.ensures.end input.ensures.limit
    (rw c.if-text.true at canonical) (fits g all) (rw (← c.as_slice.ensures.value) c.in_ok-write_text.ensures.ok)

pub returns-in_err-write_text : goal.returns-in_err-write_text
returns-in_err-write_text g c =
    let input = c.in_ok-input in
    let written = c.in_err-write_text.ensures.err in
    let canonical = made g (goal.at.returns-in_err-write_text g c).In-Some in
    let answer = c.from_residual-in_err-write_text in
    let error = err_from_is_err_and answer.result answer.ensures.1 in
    let is : answer.result ≡ Err Io = cc (error.1, error.2, c.in_err-write_text.ensures.error) in
    subst (IsRun _ _ _ _) (sym is)
    (began_text _ _ _ _ input.input.items _ _ input.ensures.read input.ensures.end input.ensures.limit canonical
    written.0 written.1 (sym c.as_slice.ensures.value ∙ written.2) written.3)
