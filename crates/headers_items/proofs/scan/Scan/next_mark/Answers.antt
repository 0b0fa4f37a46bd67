use Rattle.std.{proofs.Common.{not, sym, ◌∙◌, ap, arith, refl}, proofs.lemmas.Bool.false≢true}
use Rattle.headers_items.{specs.Places.is_even, specs.ScanState.ScanState, proofs.PlacesLemmas.{quotes_upto, hits_upto}}
use Rattle.headers_items.proofs.MarkLemmas.{mark_hits, mark_turns, mark_keeps, search_more, search_last}
use Rattle.headers_items.proofs.scan.Scan.next_mark.Goals as goal

pub invariant_of-self : goal.invariant_of-self
invariant_of-self c = let s = c.self.inside in (
  c.self.invariant.0,
  omega (arith, c.in-Some.ensures.high),
  ap not (c.self.invariant.2
      ∙ sym (mark_turns s.separator s.bytes.now s.place c.in-Some.mark c.in-Some.ensures c.if-mark.true)),
  λ e. absurd (false≢true (sym c.if-self.false ∙ e)),
)

pub invariant_of-self-else-mark : goal.invariant_of-self-else-mark
invariant_of-self-else-mark c = let s = c.self.inside in (
  c.self.invariant.0,
  omega (arith, c.in-Some.ensures.high),
  c.self.invariant.2
      ∙ ap not (sym
      (mark_keeps s.separator s.bytes.now s.place c.in-Some.mark c.self.invariant.0 c.in-Some.ensures c.if-mark.false)),
  λ e. absurd (false≢true (sym c.if-self.false ∙ e)),
)

pub invariant_of-self-in-None : goal.invariant_of-self-in-None
invariant_of-self-in-None c = let s = c.self.inside in (
  c.self.invariant.0,
  omega arith,
  c.self.invariant.2
      ∙ ap (λ n. not (is_even n))
      (sym (quotes_upto s.separator s.bytes.now s.place _ c.self.invariant.1 (omega arith) c.in-None.ensures)),
  λ _. refl,
)

pub returns-then-mark-clause-searches : goal.returns-then-mark-clause-searches
returns-then-mark-clause-searches c = let s = c.self.inside in
    search_more _ _ s.is_ended _ _
    (mark_hits s.separator s.bytes.now s.place c.in-Some.mark c.self.invariant.0 c.in-Some.ensures) c.if-self.false
    (ap (λ (v : ScanState). v.searches) c.self.view_is) (ap (λ (v : ScanState). v.is_ended) c.self.view_is)

pub returns-else-mark-clause-searches : goal.returns-else-mark-clause-searches
returns-else-mark-clause-searches c = let s = c.self.inside in
    grind (arith, mark_hits s.separator s.bytes.now s.place c.in-Some.mark c.self.invariant.0 c.in-Some.ensures)

pub returns-in-None-clause-searches : goal.returns-in-None-clause-searches
returns-in-None-clause-searches c = let s = c.self.inside in
    search_last _ _ s.is_ended _ _
    (hits_upto s.separator s.bytes.now s.place _ c.self.invariant.1 (omega arith) c.in-None.ensures) c.if-self.false
    (ap (λ (v : ScanState). v.searches) c.self.view_is) (ap (λ (v : ScanState). v.is_ended) c.self.view_is)
