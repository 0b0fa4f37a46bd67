use Rattle.{std.proofs.Common.{◌∙◌, ap}, c_pass.specs.Validating.map_text}
use Rattle.c_pass.proofs.validating.validation_text.Goals as goal

pub returns-in_ok-map_text-in-Ok : goal.returns-in_ok-map_text-in-Ok
returns-in_ok-map_text-in-Ok c =
    (c.in-Ok.validation, c.in-Ok.ensures.ok, c.in_ok-map_text-in-Ok.ensures ∙ ap map_text c.fields.ensures)
