use Rattle.{std.proofs.Common.◌∙◌, server_service.proofs.FieldLemmas.list_any-named}
use Rattle.server_service.proofs.fields.is_named.Goals as goal

pub returns : goal.returns
returns c = c.any_named.ensures ∙ list_any-named c.args.name.now c.args.fields.now
