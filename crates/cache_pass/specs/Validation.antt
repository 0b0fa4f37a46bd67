-- The request by which what was served stale is validated for nobody (RFC 5861, section 3).
use Rattle.{cache_fields.specs.Directives.directed, headers.specs.LineMap.{Field, LineMap, lines_at, set_all}}
use Rattle.headers.specs.Lines.{Line}
use Rattle.std.specs.Prelude.{[], ◌∷◌, ◌≡◌, codes, if◌then◌else◌, List, map, ℕ}
use Rattle.cache_pass.specs.{declared.pass.{Pass.Pass, Phase.TheVariants.Began}, Passes.key_of}

-- what a client asks for itself alone: by conditions (RFC 9110, section 13.1), or for a range (section 14.2)
abbrev pub own_names : List (List ℕ)
own_names =
    codes "if-match" ∷ codes "if-modified-since" ∷ codes "if-none-match" ∷ codes "if-range"
    ∷ codes "if-unmodified-since" ∷ codes "range" ∷ []

-- No stored response is the answer (RFC 9111, section 5.2.1.4), and none is stored if the client forbids that (section
-- 5.2.1.5). Its other directives say which stored response it takes.
abbrev pub control_line : LineMap → Line
control_line client = if (directed client).no_store then codes "no-cache, no-store" else codes "no-cache"

-- the fields in place of the client's: the whole representation is asked for, by the other fields of the request that
-- it was served for (section 4.3.1)
abbrev pub fields_alone : LineMap → List Field
fields_alone client = (codes "cache-control", control_line client ∷ []) ∷ map (λ name. (name, [])) own_names

-- a new pass for that request
pub record IsValidationOf (client validation : Pass) : Type 0 where
  pub key : key_of validation ≡ key_of client
  pub method : validation.method ≡ client.method
  pub fields : (name : List ℕ) → lines_at validation.request name
      ≡ set_all (lines_at client.request) (fields_alone (lines_at client.request)) name
  pub phase : validation.phase ≡ Began
