use Rattle.std.{proofs.Common.{ℕ, List, sym, ◌∙◌, ap}, specs.Prelude.option_map, specs.List.slice_range}
use Rattle.headers_items.{specs.Pairs.pair_shown, proofs.PairLemmas.{pair_of-none, pair_of-some}}
use Rattle.headers_items.proofs.pairs.halves.Goals as goal

pub returns : goal.returns
returns c = let same = c.as_bytes-bytes.ensures.value in
    pair_of-some c.args.item.now c.as_bytes-bytes.result.now c.range.result.now c.range-2.result.now
    c.in_ok-equals.equals same c.in_ok-equals.ensures (c.range.ensures.value ∙ ap
    (λ (s : List ℕ). slice_range s c.trimmed-start.result.0 c.trimmed-start.result.1) (sym same)
    ∙ c.trimmed-start.ensures.value) (c.range-2.ensures.value ∙ ap (λ (s : List ℕ). slice_range s
    c.trimmed-from.result.0 c.trimmed-from.result.1) (sym same) ∙ c.trimmed-from.ensures.value)

pub returns-in_err-equals : goal.returns-in_err-equals
returns-in_err-equals c = ap (option_map pair_shown) c.from_residual.ensures ∙ pair_of-none _ _
    c.as_bytes-bytes.ensures.value c.in_err-equals.ensures
