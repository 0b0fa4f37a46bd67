use Rattle.std.proofs.{Common.{rules, tests, ◌==◌, List, ℕ}, lemmas.Iterator.cases_from_all}
use Rattle.std.{proofs.lemmas.Iterator.Splits.YieldsList-from_slice_split, specs.List.slice_split}
use Rattle.{headers.specs.Text.trim, decide_handshake.{specs.Extensions.IsParameter, proofs.ExtensionLemmas.iff_all}}
use Rattle.decide_handshake.proofs.extensions.are_parameters.Goals as goal

pub returns : goal.returns
returns c =
    let Is : List ℕ → Type 0 = λ part. IsParameter (trim part) in
    iff_all Is (slice_split (λ b. b == 59) c.args.text.now) _ (cases_from_all _ _ _ Is (λ part. ¬ (Is part))
    c.all.ensures.ran (YieldsList-from_slice_split _ (λ b. b == 59) _ c.split.ensures.rest c.split.ensures.done
    c.split.ensures.closure (λ x b q k. search (rules, tests))) (λ x q k. search rules) (λ x q k. search rules))
