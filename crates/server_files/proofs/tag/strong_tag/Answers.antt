use Rattle.{std.proofs.Common.{◌≡◌, subst, sym, ◌∙◌}, http_header.specs.FieldValue.IsFieldValue}
use Rattle.{headers.specs.EntityTag.IsSomeTag, server_files.{specs.Tags.strong_tag, proofs.DigestLemmas.tag_is_tag}}
use Rattle.server_files.proofs.DigestLemmas.{tag_is_value}
use Rattle.server_files.proofs.tag.strong_tag.Goals as goal

pub unreachable-requires : goal.unreachable-requires
unreachable-requires c =
    let digits = c.args.digits.now in
    let text : c.as_str.result.now ≡ strong_tag digits = c.as_str.ensures.value ∙ c.in_ok-text.ensures in
    let refused = rw c.in-Err-Invalid.field-0-is at c.in-Err-Invalid.ensures.text in
    refused (
      subst IsFieldValue (sym text) (tag_is_value digits c.requires),
      subst IsSomeTag (sym text) (tag_is_tag digits c.requires),
    )
