use Rattle.{std.proofs.Common.{◌++◌, ◌∙◌, ap, append_assoc, List, option_to_list, refl}, headers.specs.Lines.lines_of}
use Rattle.{url.specs.Parts.Parts, cache_store.proofs.NamedLemmas.{continues-end, continues-next}}
use Rattle.cache_store.proofs.named.append_named.Goals as goal

pub loop-value-preserved : goal.loop-value-preserved
loop-value-preserved c =
    let old = c.loop-value.invariant.named in
    record {
      named = old ++ option_to_list c.in_ok-found.found;
      put = c.in_ok-append.ensures ∙ ap (λ (l : List Parts). l ++ option_to_list c.in_ok-found.found)
          c.loop-value.invariant.put ∙ append_assoc c.args.urls.now.items old (option_to_list c.in_ok-found.found);
      are = continues-next _ _ old _ _ _ _ _ (ap lines_of c.in-Some.ensures.steps) refl c.loop-value.invariant.are
          c.in_ok-found.ensures.target;
    }

pub returns-clause-named : goal.returns-clause-named
returns-clause-named c = (
  c.loop-value.invariant.named,
  continues-end _ _ c.loop-value.invariant.named _ (ap lines_of c.in-None.ensures.steps.0) c.loop-value.invariant.are,
  c.loop-value.invariant.put,
)
