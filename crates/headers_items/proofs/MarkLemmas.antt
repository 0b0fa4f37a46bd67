-- Facts on the next mark of a scan.
use Rattle.headers_items.proofs.PlacesLemmas.{counting_place_other, counting_place_parts, hits_more, hits_upto}
use Rattle.headers_items.{proofs.PlacesLemmas.{parity_other, parity_quote, quotes_upto}, specs.Places.{hits, is_even}}
use Rattle.headers_items.specs.{Places.quotes_before, ScanState.{IsNextMark, end_search}, declared.scan.Mark.Mark}
use Rattle.{headers_syntax.specs.Text.quote, std.proofs.Common.{Bool, List, ap, arith, cond, false, not, true, ℕ, ◌+◌}}
use Rattle.std.proofs.{Common.{◌∙◌, ◌≡◌, ◌≢◌}, lemmas.Grind.common_steps}

-- a mark is one hit
pub mark_hits : (sep : ℕ) (s : List ℕ) (i : ℕ) (m : Mark) → sep ≢ quote → IsNextMark sep s i m
    → hits sep s (m.place + 1) ≡ hits sep s i + 1
mark_hits sep s i m ne f =
    grind (arith, common_steps, hits_upto, hits_more, counting_place_parts, counting_place_other) steps 400000

-- a quote turns the parity, and a counting place leaves it
pub mark_turns : (sep : ℕ) (s : List ℕ) (i : ℕ) (m : Mark) → IsNextMark sep s i m → m.quote ≡ true
    → is_even (quotes_before s (m.place + 1)) ≡ not (is_even (quotes_before s i))
mark_turns sep s i m f y = parity_quote s m.place f.high (f.a_quote y) ∙ ap (λ n. not (is_even n))
    (quotes_upto sep s i m.place f.low (omega arith) f.before)

pub mark_keeps : (sep : ℕ) (s : List ℕ) (i : ℕ) (m : Mark) → sep ≢ quote → IsNextMark sep s i m → m.quote ≡ false
    → is_even (quotes_before s (m.place + 1)) ≡ is_even (quotes_before s i)
mark_keeps sep s i m ne f n = let byte = (counting_place_parts sep s m.place (f.a_cut n)).0 in
    grind (arith, quotes_upto sep s i m.place f.low (omega arith) f.before, parity_other)

-- a search that found a mark, and the one that came to the end
pub search_more : (h h' : ℕ) (e : Bool) (n : ℕ) (b : Bool) → h' ≡ h + 1 → e ≡ false → h + end_search e ≡ n → e ≡ b
    → h' + end_search e ≡ n + cond b 0 1
search_more h h' e n b more opn was same = rw (← same, ← was, opn) (omega arith)

pub search_last : (h h' : ℕ) (e : Bool) (n : ℕ) (b : Bool) → h' ≡ h → e ≡ false → h + end_search e ≡ n → e ≡ b
    → h' + 1 ≡ n + cond b 0 1
search_last h h' e n b more opn was same = rw (← same, ← was, opn) (omega arith)
