use Rattle.http_header.{proofs.HeaderMapLemmas.get_all-remove_other, specs.{FieldValue.FieldValue, HeaderMap.Entries}}
use Rattle.{http_header.specs.HeaderMap.get_all, std.proofs.Common.{ap, ◌∙◌}}
use Rattle.headers_map.proofs.steps.remove_lines.Goals as goal

pub returns-clause-others : goal.returns-clause-others
returns-clause-others c = λ other apart.
    ap (λ (m : Entries FieldValue). get_all m other) c.remove-first.ensures.after
    ∙ get_all-remove_other c.args.map.now c.args.name.now other c.keys_len-names.ensures.valid.unique apart
