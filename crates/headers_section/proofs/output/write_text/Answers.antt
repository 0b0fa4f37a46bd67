use Rattle.std.proofs.Common.{◌∙◌, List, ℕ, ◌++◌, take, ap, sym, append_assoc}
use Rattle.std.proofs.{lemmas.List.take-append-drop, lemmas.List.take_rest, KnownBytes.Appends-trans}
use Rattle.headers_section.proofs.output.write_text.Goals as goal

pub loop-rest-preserved : goal.loop-rest-preserved
loop-rest-preserved g c =
    let kept = c.loop-rest.invariant in
    let rest = c.loop-rest.rest.now in
    let count = c.in_ok-count.count in (
      kept.0 ++ take count rest,
      kept.1
          ∙ ap (λ (left : List ℕ). kept.0 ++ left) (sym (take-append-drop count rest)
          ∙ ap (λ (left : List ℕ). take count rest ++ left) (sym (take_rest rest count)))
          ∙ sym (append_assoc kept.0 (take count rest) _),
      Appends-trans _ _ _ kept.0 (take count rest) kept.2 c.in_ok-count.ensures.bytes,
    )
