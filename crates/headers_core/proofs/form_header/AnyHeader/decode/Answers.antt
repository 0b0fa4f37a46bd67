use Rattle.headers_core.proofs.FormLemmas.{of_lines_along}
use Rattle.headers_core.proofs.form_header.AnyHeader.decode.Goals as goal

pub returns-in-Err-clause-value : goal.returns-in-Err-clause-value
returns-in-Err-clause-value g c = of_lines_along g.H.FormHeader.form _ c.in-Err.refused c.in-Err.ensures.value
