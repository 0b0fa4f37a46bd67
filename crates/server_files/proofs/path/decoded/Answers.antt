use Rattle.std.{proofs.Common.{◌≡◌, ap, rules, ◌∙◌}, proofs.lemmas.Str.IsUtf8-string_bytes}
use Rattle.percent_encoding.specs.Percent.{percent_decode}
use Rattle.server_files.proofs.path.decoded.Goals as goal

pub returns-in-Ok : goal.returns-in-Ok
returns-in-Ok c =
    let is : c.in-Owned.bytes.items ≡ percent_decode c.args.encoded.now = search rules in
    (ap (λ v. v.items) c.in-Ok.ensures.ok ∙ is, IsUtf8-string_bytes c.in-Ok.text)
