use Rattle.std.{proofs.Common.{◌≡◌, ◌↔◌, List, All, Any, ap, ◌∙◌, subst, sym}, specs.List.filter_map}
use Rattle.headers_ranges.specs.ByteRanges.{ByteRange, gives, pieces, spec_of, specs, LiesIn, Covers, IsWithin}
use Rattle.headers_ranges.proofs.RangeLemmas.{gives_covered, covered, within}
use Rattle.headers_ranges.proofs.range.Range.satisfiable_ranges.Goals as goal

pub returns-clause-each : goal.returns-clause-each
returns-clause-each c = gives_covered c.args.len

shown : (c : goal.After-new) → c.new.result ≡ filter_map (gives c.args.len) (specs c.args.self.now.bytes)
shown c = c.new.ensures.ranges ∙ ap (λ s. filter_map (gives c.args.len)
    (filter_map spec_of (pieces s))) c.rest.ensures.value

pub returns-clause-covered : goal.returns-clause-covered
returns-clause-covered c = λ p.
    let P : List ByteRange → Type 0 = λ ranges. Any (LiesIn p) ranges
    ↔ Any (Covers c.args.len p) (specs c.args.self.now.bytes) in
    subst P (sym (shown c)) (covered c.args.len p (specs c.args.self.now.bytes))

pub returns-clause-within : goal.returns-clause-within
returns-clause-within c =
    subst (λ (ranges : List ByteRange). All (IsWithin c.args.len) ranges) (sym (shown c))
    (within c.args.len (specs c.args.self.now.bytes))
