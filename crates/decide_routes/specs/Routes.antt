-- Which route a path matches, and how a request is answered by it.
use Rattle.std.specs.Prelude.{◌≡◌, ◌≢◌, ⊤, ◌<◌, ◌==◌, ℕ, Bool, true, false, List, [], ◌∷◌, ◌++◌, Option, Some, None}
use Rattle.{std.specs.Prelude.{bytes_eq, codes, length, map}, matchit.specs.{Router.RouteOf, Seek.has_slash}}
use Rattle.matchit.specs.{declared.params.Params.Params, Rows.{RowsOf, catch_all_token, param_token}}
use Rattle.decide_resource.specs.{Answers.IsAnswer, Requests.Request, declared.answer.Answer.Answer}
use Rattle.decide_resource.specs.declared.resource.{MethodRule.MethodRule, Resource.Resource}
use Rattle.decide_resource.specs.declared.resource.State.TheVariants as state

-- ---- patterns

-- a parameter takes some bytes of a segment, and the rest goes on
pub record TakesPart (GoesOn : List ℕ → Type 0) (path : List ℕ) : Type 0 where
  pub part : List ℕ
  pub rest : List ℕ
  pub whole : path ≡ part ++ rest
  pub some : 0 < length part
  pub within : has_slash part ≡ false
  pub goes_on : GoesOn rest

-- a byte matches itself
abbrev pub TakesByte : ℕ → (List ℕ → Type 0) → List ℕ → Type 0
TakesByte byte GoesOn [] = ⊥
TakesByte byte GoesOn (b ∷ path) = (b ≡ byte) × GoesOn path

-- what a token takes, which is a parameter, a catch-all, or else a byte
abbrev pub Takes : Bool → Bool → ℕ → (List ℕ → Type 0) → List ℕ → Type 0
Takes true catches token GoesOn path = TakesPart GoesOn path
Takes false true token GoesOn path = 0 < length path
Takes false false token GoesOn path = TakesByte token GoesOn path

-- The path matches the pattern: a byte matches itself, a parameter takes some bytes of a segment, and a catch-all
-- all that is left, which is something.
abbrev pub Matches : List ℕ → List ℕ → Type 0
Matches [] path = path ≡ []
Matches (token ∷ pattern) path = Takes (token == param_token) (token == catch_all_token) token (Matches pattern) path

module _ {K : Type 0} where
  -- no entry has this pattern
  abbrev pub LacksPattern : List ℕ → RowsOf K → Type 0
  LacksPattern pattern [] = ⊤
  LacksPattern pattern ((other, key) ∷ rows) = (other ≢ pattern) × LacksPattern pattern rows

  -- no two entries have the same pattern
  abbrev pub IsDistinct : RowsOf K → Type 0
  IsDistinct [] = ⊤
  IsDistinct ((pattern, key) ∷ rows) = LacksPattern pattern rows × IsDistinct rows

-- ---- answers

-- the parameters are those that the route takes of the path
pub record IsTaken {T : Type 0} (route : RouteOf T) (path : List ℕ) (params : Params) : Type 0 where
  pub pattern : params.pattern.now ≡ route.pattern
  pub text : params.text.now ≡ route.text
  pub names : params.names.now ≡ route.names
  pub of : params.path.now ≡ path

-- The answer to a request whose path leads to this route, or to none: that of the resource which the route is said to
-- lead to, or else that of the resource which is nowhere.
module _ {T : Type 0} (present : ℕ) (nowhere : Resource) (request : Request)
    (describes : RouteOf T → Resource → Type 0) where
  abbrev pub IsAnswerAt : Option (RouteOf T) → Answer → Type 0
  IsAnswerAt None answer = IsAnswer present nowhere request answer
  IsAnswerAt (Some route) answer =
      (resource : Resource) × describes route resource × IsAnswer present resource request answer

-- the path is `*`, which is the server in general (RFC 9110, section 9.3.7)
abbrev pub is_asterisk : List ℕ → Bool
is_asterisk path = bytes_eq path (codes "*")

-- The answer by the path of a target: that of `*` is the resource of the server in general.
abbrev pub IsAnswerTo : {T : Type 0} → ℕ → Resource → Resource → Request → (RouteOf T → Resource → Type 0) → Bool
    → Option (RouteOf T) → Answer → Type 0
IsAnswerTo present wide nowhere request describes true route answer = IsAnswer present wide request answer
IsAnswerTo present wide nowhere request describes false route answer =
    IsAnswerAt present nowhere request describes route answer

-- ---- what is no resource of its own

-- the method of a rule, and whether it makes a representation
abbrev pub told_of : MethodRule → List ℕ × Bool
told_of rule = (rule.method, rule.creates)

-- that of a method which makes none
abbrev pub idle_rule : List ℕ → List ℕ × Bool
idle_rule method = (method, false)

-- The resource at a path that has none: it is absent, it has each method that the server implements, and none of them
-- makes it.
pub record IsNowhere (resource : Resource) : Type 0 where
  pub absent : resource.state ≡ state.Absent
  pub rules : map told_of resource.rules.items
      ≡ (codes "GET", false) ∷ map idle_rule resource.implemented.items

-- The server in general has each method that it implements.
pub record IsServerWide (resource : Resource) : Type 0 where
  pub general : resource.state ≡ state.Server
  pub rules : map told_of resource.rules.items
      ≡ (codes "GET", false) ∷ map idle_rule resource.implemented.items
