-- The targets in the fields of a response (RFC 9111, section 4.4).
use Rattle.std.specs.Prelude.{[], ◌++◌, ◌∷◌, ◌≡◌, codes, IsSome, List, MatchResult, None, Ok, Option, Some, ℕ}
use Rattle.{std.specs.Prelude.option_to_list, url.specs.{Origin.origin_of, Parser.parse_url, Parts.Parts}}
use Rattle.{url.specs.Setters.set_fragment, headers.specs.{LineMap.LineMap, Lines.Line, Shapes.text_line}}

-- both URLs have the same origin, and it is one of scheme, host and port (RFC 9110, section 4.3.1)
abbrev pub IsSameOrigin : Parts → Parts → Type 0
IsSameOrigin a b = IsSome (origin_of a) × (origin_of a ≡ origin_of b)

-- the field line is a reference to this URL, as the URL Standard resolves it against the base
pub record RefersTo (base : Parts) (line : Line) (url : Parts) : Type 0 where
  pub text : Line
  pub is_text : text_line line ≡ Some text
  pub resolved : parse_url (Some base) text ≡ Ok url

-- The target in the field line, if it has one with the origin of the base: the URL that it refers to, without its
-- fragment (RFC 9110, section 7.1).
abbrev pub Names : Parts → Line → Option Parts → Type 0
Names base line (Some target) =
    (url : Parts) × RefersTo base line url × IsSameOrigin base url × (target ≡ set_fragment url None)
Names base line None = (url : Parts) → RefersTo base line url → ¬ (IsSameOrigin base url)

-- the targets in the field lines, in order
abbrev pub AreNamedBy : Parts → List Line → List Parts → Type 0
AreNamedBy base [] targets = targets ≡ []
AreNamedBy base (line ∷ lines) targets = (named : Option Parts) × (rest : List Parts)
    × Names base line named × AreNamedBy base lines rest × (targets ≡ option_to_list named ++ rest)

-- the targets in Location and Content-Location of a response; none if the target of its request is no URL
abbrev pub AreNamed : List ℕ → LineMap → List Parts → Type 0
AreNamed target response targets =
    MatchResult (parse_url None target)
    (λ base. AreNamedBy base (response (codes "location") ++ response (codes "content-location")) targets)
    (λ e. targets ≡ [])
