use Rattle.{std.proofs.Common.{refl, ap, List, codes}, http_header.specs.FieldValue.{FieldValue, plain_value}}
use Rattle.{headers.specs.{Lines.Line, Shapes.only_tag}, cache_policy.proofs.ValidatingLemmas.canonical-lines}
use Rattle.cache_policy.proofs.validating.tag_field.Goals as goal

pub returns : goal.returns
returns c = ap (λ (lines : List Line). (codes "if-none-match", lines))
    (canonical-lines (only_tag {V = Line} (λ tag. tag)).value_of (λ (tag : FieldValue). tag.bytes) (λ (tag : Line). tag)
    plain_value (λ _. refl) refl _ _ c.in_ok-lines.ensures)
