use Rattle.std.{proofs.Common.{refl, ◌∙◌}, specs.Prelude.codes}
use Rattle.headers_hosts.proofs.OriginLemmas.{origin_path, origin_query, is_word, none_is_none}
use Rattle.headers_hosts.proofs.origin.origin_of.Goals as goal
use Rattle.headers_hosts.proofs.origin.origin_of.Goals.{then-ne-via-then-ne, then-ne-via-else-ne+then-is_some}

pub returns-then-ne : goal.returns-then-ne
returns-then-ne c = λ origin h.
    elim c.then-ne.branch [
      | then-ne-via-then-ne w ↦ is_word _ _ _ (codes "/") c.path.ensures.value refl
          (origin_path c.args.uri origin h) w.if-ne.ensures
      | then-ne-via-else-ne+then-is_some w ↦ none_is_none _
          (w.query.ensures.value ∙ origin_query c.args.uri origin h) w.if-is_some.ensures
    ]
