use Rattle.headers_core.proofs.FormLemmas.{of_lines_along}
use Rattle.headers_authorization.proofs.proxy_authorization.ProxyAuthorizationHeader.decode.Goals as goal

pub returns-in-Err-clause-value : goal.returns-in-Err-clause-value
returns-in-Err-clause-value g c =
    of_lines_along (λ header. record { 0 = header.0 }) _ c.in-Err.refused c.in-Err.ensures.value
