use Rattle.std.{proofs.Common.{◌≡◌, None, Some}, specs.Prelude.if◌then◌else◌, specs.List.list_any}
use Rattle.headers_items.proofs.AnswerLemmas.{entries_survive}
use Rattle.headers_caching.specs.CacheControl.{Directives, directives, is_bad}
use Rattle.headers_caching.proofs.cache_control.cache_control_survives_cuts.Goals as goal

pub returns : goal.returns
returns c =
    entries_survive (λ es (d : Directives). (if list_any is_bad es then None else Some (directives es)) ≡ Some d)
