use Rattle.std.{proofs.{Common.{◌∙◌, ℕ, ap, sym}, lemmas.Str.IsUtf8-string_bytes}, specs.Global.Vec}
use Rattle.rfc_lists.{specs.Extended.utf8_text, proofs.ExtendedLemmas.utf8_yes}
use Rattle.rfc_lists.proofs.extended.utf8_text.Goals as goal

pub returns-in-Ok : goal.returns-in-Ok
returns-in-Ok c =
    sym (utf8_yes _ (IsUtf8-string_bytes c.in-Ok.text)) ∙ ap (λ (v : Vec ℕ). utf8_text v.items) c.in-Ok.ensures.ok
