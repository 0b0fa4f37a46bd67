use Rattle.std.proofs.{Common.{List, ℕ, sym, ◌∙◌}, lemmas.List.Folds.list_all-map}
use Rattle.{http_header.specs.FieldValue.FieldValue, server_service.specs.Response.is_bare_line}
use Rattle.server_service.proofs.fields.are_bare_lines.Goals as goal

pub returns : goal.returns
returns c = c.each_is_bare.ensures
    ∙ sym (list_all-map is_bare_line (λ (line : List ℕ × FieldValue). (line.0, line.1.bytes)) c.args.lines.now)
