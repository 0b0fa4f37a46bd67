use Rattle.headers_items.proofs.WalkLemmas.{IsNextCut-same, NoCut-same, le_same, piece_trimmed, state_bound, walk_bound}
use Rattle.headers_items.proofs.{WalkLemmas.{walk_last, walk_more}, items.Items.next.Goals.{in-None, in-Some}}
use Rattle.{headers_items.specs.ItemsState.{ItemsState, ScansPiece}, headers_syntax.proofs.TextLemmas.is_text-slice}
use Rattle.{headers_syntax.specs.Text.{is_text, trim}, std.proofs.Common.{Some, ap, arith, length, sym, ◌+◌, ◌∙◌, ◌≡◌}}
use Rattle.std.{proofs.lemmas.Grind.common_steps, specs.List.slice_range}
use Rattle.headers_items.proofs.items.Items.next.Goals as goal

pub returns-clause-steps : goal.returns-clause-steps
returns-clause-steps g c = let s = c.args.self.now in let t = c.match-next_cut.self in let scan = c.self.inside.scan in
    let at : scan.place ≡ c.self.inside.start = c.self.invariant.at_start c.if-self.false in
    let text = c.self.inside.text.now in let from = c.self.inside.start in let same : s.text ≡ text = cc in
    let same' : s.start ≡ from = cc in
    let item : c.range.result.now ≡ trim (slice_range s.text s.start c.match-next_cut.end) = piece_trimmed
    c.range.result.now c.as_bytes.result.now text s.text c.trimmed-low.result.0 c.trimmed-low.result.1 from s.start
    c.match-next_cut.end c.range.ensures.value c.trimmed-low.ensures.value c.as_bytes.ensures.value same same' in
    elim c.match-next_cut.branch [
      | in-Some w ↦ walk_more s t c.range.result.now c.match-next_cut.end (cc) (IsNextCut-same scan.separator
          s.separator scan.bytes s.text scan.place s.start w.in-Some.cut c.match-next_cut.end w.in-Some.ensures.found
          (cc) (cc) (cc) w.end-is) item (cc) (cc) (cc)
          (ap (λ (v : ItemsState). v.start) w.self-is ∙ ap (λ n. n + 1) (sym w.end-is))
      | in-None w ↦ walk_last s t c.range.result.now (cc)
          (le_same c.self.inside.start s.start c.self.inside.text.now s.text c.self.invariant.within (cc) (cc))
          (NoCut-same scan.separator s.separator scan.bytes s.text scan.place s.start w.in-None.ensures.found (cc) (cc)
          (cc)) (item ∙ ap (λ n. trim (slice_range s.text s.start n)) (w.end-is ∙ ap length (sym same))) (cc)
    ]

pub returns-then-self-clause-bound : goal.returns-then-self-clause-bound
returns-then-self-clause-bound g c = let s = c.self.inside.scan in
    state_bound c.args.self.now g.S.Separator.BYTE c.self.inside.text.now s.place s.searches s.is_ended
    c.self.invariant.reached c.self.invariant.searches (cc) (cc) (cc)

pub returns-clause-bound : goal.returns-clause-bound
returns-clause-bound g c = let scanned : ScansPiece c.args.self.now (Some c.range.result) c.match-next_cut.self =
    grind (arith, common_steps) in walk_bound c.args.self.now c.match-next_cut.self c.range.result scanned

pub returns-clause-plain : goal.returns-clause-plain
returns-clause-plain g c = ap is_text c.range.ensures.value ∙ is_text-slice c.self.inside.text.now
    c.trimmed-low.result.0 c.trimmed-low.result.1 c.self.invariant.plain
