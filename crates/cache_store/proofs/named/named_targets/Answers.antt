use Rattle.{std.proofs.Common.{◌++◌, ◌∙◌, ap, List}, headers.specs.LineMap.lines_at, url.specs.Parts.Parts}
use Rattle.cache_store.proofs.NamedLemmas.{named-append}
use Rattle.cache_store.proofs.named.named_targets.Goals as goal

pub returns-in_ok-append_named-in-Ok-2-clause-targets : goal.returns-in_ok-append_named-in-Ok-2-clause-targets
returns-in_ok-append_named-in-Ok-2-clause-targets c =
    let base = c.in-Ok.base in
    let response = lines_at c.args.response.now in
    let first = c.in_ok-append_named-in-Ok.ensures.named in
    let second = c.in_ok-append_named-in-Ok-2.ensures.named in
    rw c.in-Ok.ensures (rw (← (second.2 ∙ ap (λ (l : List Parts). l ++ second.0)
    (first.2 ∙ ap (λ (l : List Parts). l ++ first.0) c.new-urls.ensures.items))) at
    (named-append _ _ _ _ _ first.1 second.1))
