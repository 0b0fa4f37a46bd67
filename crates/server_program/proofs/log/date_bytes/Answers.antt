use Rattle.{std.proofs.Common.{sym, ◌∙◌, ap}, httpdate.specs.Valid.IsValid, headers.specs.Date.fixdate}
use Rattle.headers_syntax.proofs.DateLemmas.{fixdate-is}
use Rattle.server_program.proofs.log.date_bytes.Goals as goal

pub returns : goal.returns
returns c =
    let d = c.in-Ok.date in
    let valid : IsValid d.parts = (d.civil, d.time, d.right_day) in
    c.to_bytes.ensures
    ∙ sym (ap fixdate (sym (c.in-Ok.ensures.value ∙ c.unix_secs.ensures.value)) ∙ fixdate-is d.parts valid)
