-- A server's policy, as contracts see it.
use Rattle.{std.specs.Prelude.{Bool, List, Option}, headers.specs.Lines.Line}

-- The texts of the listed origins, or `None` for any; whether credentials are allowed; and the values of
-- Access-Control-Allow-Methods, -Allow-Headers, -Expose-Headers and -Max-Age.
pub record Policy : Type 0 where
  pub origins : Option (List Line)
  pub credentials : Bool
  pub methods : Line
  pub names : Line
  pub exposed : Line
  pub max_age : Option Line
