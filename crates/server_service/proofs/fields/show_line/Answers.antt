use Rattle.server_service.proofs.TrimLemmas.{line_valid}
use Rattle.server_service.proofs.fields.show_line.Goals as goal

pub returns : goal.returns
returns c =
    line_valid c.args.name.now c.args.value.now.bytes c.as_bytes-name.ensures.valid c.as_bytes-value.ensures.valid
