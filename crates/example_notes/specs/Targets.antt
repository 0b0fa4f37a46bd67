-- What a path leads to.
use Rattle.std.specs.Prelude.{◌≡◌, ℕ, ◌<◌, ◌^◌, Bool, true, false, not, ◌&&◌, List, [], ◌∷◌, Option, Some, None, codes}
use Rattle.std.specs.{Prelude.nat_lt, Str.Parse.{IsNumeral, digits_value, without_leading_plus}}
use Rattle.matchit.specs.{Params.{AllText, named, walk}, Router.RouteOf, Rows.RowsOf, Seek.first}
use Rattle.{decide_routes.specs.Routes.is_asterisk, example_notes.specs.declared.target.RouteTarget.RouteTarget}
use Rattle.example_notes.specs.declared.target.RouteTarget.TheVariants as place
use Rattle.example_notes.specs.declared.target.Target.{Target}
use Rattle.example_notes.specs.declared.target.Target.TheVariants as target

-- the first digit is 1 to 9, so there is no sign, and no zero before the number
abbrev pub is_plain : List ℕ → Bool
is_plain [] = false
is_plain (digit ∷ digits) = not (nat_lt digit 49) && not (nat_lt 57 digit)

-- the digits are those of the number, which is 1 or more, as the path of a note has them: one path for each number
abbrev pub IsId : List ℕ → ℕ → Type 0
IsId digits id =
    (is_plain digits ≡ true) × IsNumeral 10 (without_leading_plus digits)
    × (digits_value 10 (without_leading_plus digits) ≡ id)

-- a note, if the digits are those of a number of 64 bits
abbrev pub IsNamed : Option (List ℕ) → Target → Type 0
IsNamed None named = named ≡ target.Nowhere
IsNamed (Some digits) target.Notes = ⊥
IsNamed (Some digits) (target.Note id) = IsId digits id
IsNamed (Some digits) target.Server = ⊥
IsNamed (Some digits) target.Nowhere = (id : ℕ) → id < 2 ^ 64 → ¬ (IsId digits id)

-- what the parameter `id` of a route takes of the path, if all that is taken is text
abbrev pub TakesId : RouteOf RouteTarget → List ℕ → Option (List ℕ) → Type 0
TakesId route path id =
    AllText (walk route.pattern route.text path route.names 0 0)
    → named (codes "id") (walk route.pattern route.text path route.names 0 0) ≡ id

abbrev pub LeadsTo : RouteTarget → RouteOf RouteTarget → List ℕ → Target → Type 0
LeadsTo place.Notes route path found = found ≡ target.Notes
LeadsTo place.Note route path found = (id : Option (List ℕ)) × TakesId route path id × IsNamed id found

abbrev pub IsTargetAt : Option (RouteOf RouteTarget) → List ℕ → Target → Type 0
IsTargetAt None path found = found ≡ target.Nowhere
IsTargetAt (Some route) path found = LeadsTo route.value route path found

abbrev pub IsTargetIf : Bool → Option (RouteOf RouteTarget) → List ℕ → Target → Type 0
IsTargetIf true route path found = found ≡ target.Server
IsTargetIf false route path found = IsTargetAt route path found

-- the server in general, for `*`; else the target of the route that the path matches, or nothing
abbrev pub IsTarget : RowsOf (RouteOf RouteTarget) → List ℕ → Target → Type 0
IsTarget router path found = IsTargetIf (is_asterisk path) (first router path) path found
