-- The conditions of a request on a resource (RFC 9110, section 13.1).
use Rattle.std.specs.Prelude.{ℕ, ◌+◌, ◌<◌, ◌≤◌, List, Option, None, IsSomeAnd, IfSome, IsTrue, option_map, codes}
use Rattle.{std.specs.Option.{option_and_then, option_zip}, rfc_values.specs.{Calendar.unix_epoch, Date.timestamp}}
use Rattle.headers.specs.{LineMap.LineMap, Lines.{Line, only_line}, Text.trim, Typed.HasLine}
use Rattle.decide_preconditions.specs.{Tags.{may_name, names}, declared.resource.TargetState.TargetState}
use Rattle.decide_preconditions.specs.declared.resource.TargetState.TheVariants.{Missing, Current}
use Rattle.decide_preconditions.specs.declared.tags.Comparison.TheVariants.{Strong, Weak}

-- the request has a field of this name
abbrev pub IsPresent : List ℕ → LineMap → Type 0
IsPresent name request = HasLine (request name)

-- the only field line of a field, without the blanks at its ends
abbrev pub only_text : List Line → Option Line
only_text lines = option_map trim (only_line lines)

-- when the current representation was last modified, in seconds since 1970, if that is known
abbrev pub modified_of : TargetState → Option ℕ
modified_of Missing = None
modified_of (Current validators) = validators.last_modified

-- ---- by tags

-- The condition of If-Match (section 13.1.1). `*` is true for each current representation, and a list for the one whose
-- tag is strongly equal to a tag of the list. Otherwise it is false, also for a field that is neither.
abbrev pub IfMatchIsTrue : LineMap → TargetState → Type 0
IfMatchIsTrue request resource = IsTrue (names Strong (request (codes "if-match")) resource)

-- The condition of If-None-Match (section 13.1.2) is false: `*` for each current representation, and a list for the one
-- whose tag is weakly equal to a tag of the list.
abbrev pub IfNoneMatchIsFalse : LineMap → TargetState → Type 0
IfNoneMatchIsFalse request resource = IsTrue (names Weak (request (codes "if-none-match")) resource)

-- It is false, or may be: there is a current representation, and the field is malformed.
abbrev pub IfNoneMatchMayBeFalse : LineMap → TargetState → Type 0
IfNoneMatchMayBeFalse request resource = IsTrue (may_name Weak (request (codes "if-none-match")) resource)

-- ---- by dates

module _ (present : ℕ) where
  -- The date of a field (section 5.6.7), in seconds since the start of the year 0: its only line, if that is a date.
  -- `present` is the time of the response, in seconds since 1970, which decides a year of two digits.
  abbrev pub date_in : List Line → Option ℕ
  date_in lines = option_and_then (timestamp present) (only_text lines)

  -- The date of a field, and when the representation was last modified. The field counts only if there are both: it is
  -- ignored if it isn't one valid date, or if the resource has no modification date.
  abbrev pub dates : List ℕ → LineMap → TargetState → Option (ℕ × ℕ)
  dates name request resource = option_zip (date_in (request name)) (modified_of resource)

  -- the condition of If-Modified-Since (section 13.1.3) counts and is false: the last modification is no later
  abbrev pub ModifiedSinceIsFalse : LineMap → TargetState → Type 0
  ModifiedSinceIsFalse request resource =
      IsSomeAnd (dates (codes "if-modified-since") request resource) (λ both. unix_epoch + both.1 ≤ both.0)

  -- the condition is true, or it doesn't count
  abbrev pub ModifiedSinceLets : LineMap → TargetState → Type 0
  ModifiedSinceLets request resource =
      IfSome (dates (codes "if-modified-since") request resource) (λ both. both.0 < unix_epoch + both.1)

  -- the condition of If-Unmodified-Since (section 13.1.4) counts and is false: the last modification is later
  abbrev pub UnmodifiedSinceIsFalse : LineMap → TargetState → Type 0
  UnmodifiedSinceIsFalse request resource =
      IsSomeAnd (dates (codes "if-unmodified-since") request resource) (λ both. both.0 < unix_epoch + both.1)

  -- the condition is true, or it doesn't count
  abbrev pub UnmodifiedSinceLets : LineMap → TargetState → Type 0
  UnmodifiedSinceLets request resource =
      IfSome (dates (codes "if-unmodified-since") request resource) (λ both. unix_epoch + both.1 ≤ both.0)
