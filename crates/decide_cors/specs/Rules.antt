-- What rules allow, which rules make a policy, and which policy they make.
use Rattle.std.specs.Prelude.{◌≡◌, ◌≢◌, ◌⊎◌, ℕ, Bool, false, List, map, Option, Some, None, Contains, IsTrue, ⊤, codes}
use Rattle.{std.specs.Prelude.{decimal, min, option_map, IfSome, IsSome}, http_header.specs.Token.lowercase}
use Rattle.headers.specs.{Lines.Line, Origin.origin_text, declared.Origin.Origin, ListItem.{Reading, IsListOf}}
use Rattle.{headers.specs.ListItem.{method_of, name_of}, decide_cors.specs.Allowed.{Admits, IsAny, IsAnyName, Lists}}
use Rattle.decide_cors.specs.{Allowed.{ListsName, ListsNone, ListsNoName}, Browser.{Request, IsForbidden, IsSafeMethod}}
use Rattle.decide_cors.specs.{Browser.{safe_fields, star}, Policy.Policy, SentOrigins.unsent_of}
use Rattle.decide_cors.specs.declared.{error.RulesError.RulesError, rules.Allowed.{Allowed, TheVariants.{Any, Listed}}}
use Rattle.decide_cors.specs.declared.rules.{AllowedNames.AllowedNames, CorsRules.CorsRules}
use Rattle.decide_cors.specs.declared.error.RulesError.TheVariants as Error
use Rattle.decide_cors.specs.declared.rules.AllowedNames.TheVariants as Names

-- the texts of listed origins, or `None` for any
abbrev pub texts : Allowed Origin → Option (List Line)
texts Any = None
texts (Listed origins) = Some (map origin_text origins.items)

-- the origin of this text is allowed: any is, or it is listed
abbrev pub AllowsOrigin : CorsRules → Line → Type 0
AllowsOrigin rules origin = IfSome (texts rules.origins) (λ listed. Contains listed origin)

-- credentials may be included, if they are
abbrev pub AllowsCredentials : CorsRules → Bool → Type 0
AllowsCredentials rules included = IsTrue included → IsTrue rules.credentials

abbrev pub AllowsMethod : CorsRules → Line → Type 0
AllowsMethod rules method = IsSafeMethod method ⊎ Admits rules.methods method

-- ASCII case is ignored; any name is all but `authorization`, unless that is allowed as well
abbrev pub AdmitsName : AllowedNames → Line → Type 0
AdmitsName Names.Any name = lowercase name ≢ codes "authorization"
AdmitsName Names.AnyAndAuthorization name = ⊤
AdmitsName (Names.Listed names) name = Contains (map lowercase names.items) (lowercase name)

abbrev pub AllowsName : CorsRules → Line → Type 0
AllowsName rules name = AdmitsName rules.names name

pub record AllowsRequest (rules : CorsRules) (request : Request) : Type 0 where
  pub origin : AllowsOrigin rules request.origin
  pub credentials : AllowsCredentials rules request.credentials
  pub method : AllowsMethod rules request.method
  pub names : (name : Line) → Contains request.unsafe name → AllowsName rules name

abbrev pub ShowsListed : Allowed Line → Line → Type 0
ShowsListed Any name = ⊤
ShowsListed (Listed names) name = Contains (map lowercase names.items) (lowercase name)

-- the rules let scripts read the response's field of this name
abbrev pub Exposes : CorsRules → Line → Type 0
Exposes rules name = Contains safe_fields (lowercase name) ⊎ (¬ (IsForbidden name) × ShowsListed rules.exposed name)

-- none of the four is any
pub record ListsAll (rules : CorsRules) : Type 0 where
  pub origins : ¬ (IsAny rules.origins)
  pub methods : ¬ (IsAny rules.methods)
  pub names : ¬ (IsAnyName rules.names)
  pub exposed : ¬ (IsAny rules.exposed)

-- a star is listed
abbrev pub HasStar : CorsRules → Type 0
HasStar rules = Lists rules.methods star ⊎ ListsName rules.names star ⊎ Lists rules.exposed star

-- browsers take the rules as they mean: with credentials nothing is any, and no star is listed
pub record IsReadable (rules : CorsRules) : Type 0 where
  pub lists : IsTrue rules.credentials → ListsAll rules
  pub no_star : ¬ (HasStar rules)

-- in addition, browsers send each of the listed origins
pub record IsLawful (rules : CorsRules) : Type 0 where
  pub lists : IsTrue rules.credentials → ListsAll rules
  pub no_star : ¬ (HasStar rules)
  pub sent : unsent_of (texts rules.origins) ≡ None

-- what is any although credentials are allowed
abbrev pub RefusesAny : CorsRules → Option RulesError → Type 0
RefusesAny rules None = IsTrue rules.credentials → ListsAll rules
RefusesAny rules (Some Error.AnyOriginWithCredentials) = IsTrue rules.credentials × IsAny rules.origins
RefusesAny rules (Some Error.AnyMethodWithCredentials) = IsTrue rules.credentials × IsAny rules.methods
RefusesAny rules (Some Error.AnyNameWithCredentials) = IsTrue rules.credentials × IsAnyName rules.names
RefusesAny rules (Some Error.AnyExposedWithCredentials) = IsTrue rules.credentials × IsAny rules.exposed
RefusesAny rules (Some Error.Star) = ⊥
RefusesAny rules (Some (Error.UnsentOrigin place)) = ⊥
RefusesAny rules (Some Error.Memory) = ⊥

-- why browsers take rules in another sense than they mean
abbrev pub RefusesReading : CorsRules → Option RulesError → Type 0
RefusesReading rules None = IsReadable rules
RefusesReading rules (Some Error.Star) = HasStar rules
RefusesReading rules (Some error) = RefusesAny rules (Some error)

-- Why rules make no policy. The listed origin at the place is the first that no browser sends.
abbrev pub Refuses : CorsRules → RulesError → Type 0
Refuses rules (Error.UnsentOrigin place) = unsent_of (texts rules.origins) ≡ Some place
Refuses rules error = RefusesReading rules (Some error)

-- something of the rules is encoded: a list, or the seconds; a star needs no allocation
abbrev pub IsWritten : CorsRules → Type 0
IsWritten rules = ¬ (IsAny rules.origins) ⊎ ¬ (IsAny rules.methods) ⊎ ¬ (IsAnyName rules.names)
    ⊎ ¬ (IsAny rules.exposed) ⊎ IsSome rules.max_age

-- Why rules that browsers take as they mean aren't encoded as a policy.
abbrev pub IsUnwritten : CorsRules → RulesError → Type 0
IsUnwritten rules Error.Memory = IsWritten rules
IsUnwritten rules (Error.UnsentOrigin place) = Refuses rules (Error.UnsentOrigin place)
IsUnwritten rules error = ⊥

-- the same of the texts of the origins alone, or of `None` for any
abbrev pub RejectsTexts : Option (List Line) → RulesError → Type 0
RejectsTexts origins Error.Memory = IsSome origins
RejectsTexts origins (Error.UnsentOrigin place) = unsent_of origins ≡ Some place
RejectsTexts origins error = ⊥

-- What an error says. Memory runs out only if something is encoded, and once all rules are checked but whether some
-- browser sends the listed origins.
abbrev pub IsErrorOf : CorsRules → RulesError → Type 0
IsErrorOf rules Error.Memory = IsReadable rules × IsWritten rules
IsErrorOf rules error = Refuses rules error

-- a star for any value; else a line whose items are the values, joined by a comma and a space
abbrev pub IsListLine : Reading → Allowed Line → Line → Type 0
IsListLine reading Any line = line ≡ star
IsListLine reading (Listed values) line = IsListOf reading values.items line

-- a star for any name, and `authorization` by itself, since a star doesn't include it; else the names
abbrev pub IsNamesLine : AllowedNames → Line → Type 0
IsNamesLine Names.Any line = line ≡ star
IsNamesLine Names.AnyAndAuthorization line = line ≡ codes "*, authorization"
IsNamesLine (Names.Listed names) line = IsListOf name_of names.items line

-- 2^31 - 1, some 68 years
abbrev pub greatest_age : ℕ
greatest_age = 2147483647

-- the seconds as they are encoded: browsers cap them far lower, and take a number past 2^63 for none
abbrev pub age_line : ℕ → Line
age_line seconds = decimal (min seconds greatest_age)

-- the policy of the rules
pub record IsPolicyOf (rules : CorsRules) (policy : Policy) : Type 0 where
  pub origins : policy.origins ≡ texts rules.origins
  pub credentials : policy.credentials ≡ rules.credentials
  pub methods : IsListLine method_of rules.methods policy.methods
  pub names : IsNamesLine rules.names policy.names
  pub exposed : IsListLine name_of rules.exposed policy.exposed
  pub max_age : policy.max_age ≡ option_map age_line rules.max_age

-- rules that allow these origins, and nothing else
pub record AllowsOriginsAlone (origins : Allowed Origin) (rules : CorsRules) : Type 0 where
  pub same : rules.origins ≡ origins
  pub methods : ListsNone rules.methods
  pub names : ListsNoName rules.names
  pub exposed : ListsNone rules.exposed
  pub credentials : rules.credentials ≡ false
  pub max_age : rules.max_age ≡ None
