-- What a request names that it may replace (RFC 9110, sections 13.1.1, 13.1.2 and 13.1.4).
use Rattle.std.specs.Prelude.{◌≡◌, ◌⊎◌, ℕ, ◌+◌, true, false, Option, IsSomeAnd, codes}
use Rattle.{rfc_values.specs.Calendar.unix_epoch, headers.specs.LineMap.LineMap}
use Rattle.decide_preconditions.specs.{Conditions.{IfMatchIsTrue, dates}, Preconditions.HasIfMatch, Tags.is_star}
use Rattle.decide_preconditions.specs.declared.resource.TargetState.{TargetState as Target}
use Rattle.decide_resource.specs.{Answers.{IsSelected, at_place, target_of}, Requests.Request}
use Rattle.decide_resource.specs.declared.resource.Resource.{Resource}
use Rattle.decide_preconditions.specs.declared.resource.TargetState.TheVariants as target

-- If-None-Match is `*`, and there is nothing to replace
abbrev pub ReplacesNothing : LineMap → Target → Type 0
ReplacesNothing fields current = (is_star (fields (codes "if-none-match")) ≡ true) × (current ≡ target.Missing)

-- If-Match isn't `*`, and it is true: there is a current representation, whose tag is strongly equal to one of its tags
abbrev pub ReplacesListed : LineMap → Target → Type 0
ReplacesListed fields current = (is_star (fields (codes "if-match")) ≡ false) × IfMatchIsTrue fields current

-- If-Match is absent, and If-Unmodified-Since is the date of a representation to which each change gives a later one
abbrev pub ReplacesDated : ℕ → Resource → LineMap → Target → Type 0
ReplacesDated present resource fields current =
    (resource.has_strong_dates ≡ true) × (¬ (HasIfMatch fields))
    × IsSomeAnd (dates present (codes "if-unmodified-since") fields current) (λ both. both.0 ≡ unix_epoch + both.1)

-- what a request with these fields replaces is what it names
abbrev pub IsNamed : ℕ → Resource → LineMap → Target → Type 0
IsNamed present resource fields current =
    ReplacesNothing fields current ⊎ (ReplacesListed fields current ⊎ ReplacesDated present resource fields current)

-- what the request replaces is what it names: the selected representation, by its tag or its date, or nothing
abbrev pub ReplacesNamed : ℕ → Resource → Request → Type 0
ReplacesNamed present resource request =
    (place : Option ℕ) × IsSelected resource request.fields place
    × IsNamed present resource request.fields
    (target_of resource.state (at_place resource.representations.items place))
