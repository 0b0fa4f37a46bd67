-- The texts of errors.
use Rattle.std.specs.Prelude.{ℕ, ◌++◌, List, codes, decimal}
use Rattle.decide_cors.specs.declared.error.RulesError.{RulesError}
use Rattle.decide_cors.specs.declared.error.RulesError.TheVariants as Error

abbrev pub rules_error_text : RulesError → List ℕ
rules_error_text Error.AnyOriginWithCredentials = codes "any origin with credentials"
rules_error_text Error.AnyMethodWithCredentials = codes "any method with credentials"
rules_error_text Error.AnyNameWithCredentials = codes "any request field with credentials"
rules_error_text Error.AnyExposedWithCredentials = codes "any response field with credentials"
rules_error_text Error.Star = codes "a star in a list"
rules_error_text (Error.UnsentOrigin place) = codes "no browser sends the origin at place " ++ decimal place
rules_error_text Error.Memory = codes "out of memory"
