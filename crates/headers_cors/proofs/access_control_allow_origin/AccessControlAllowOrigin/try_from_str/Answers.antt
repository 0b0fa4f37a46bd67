use Rattle.headers_cors.proofs.AllowOriginLemmas.{text_refused}
use Rattle.headers_cors.proofs.access_control_allow_origin.AccessControlAllowOrigin.try_from_str.Goals as goal

pub returns-in-Err : goal.returns-in-Err
returns-in-Err c = text_refused _ c.in-Err.refused c.in-Err.ensures
