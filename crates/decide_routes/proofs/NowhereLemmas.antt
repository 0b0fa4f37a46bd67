-- How a request for what is no resource of its own is answered.
use Rattle.std.proofs.Common.{◌≡◌, ◌≢◌, ◌⊎◌, ℕ, Bool, true, false, cond, List, [], ◌∷◌, Option, Some, refl, sym, ◌∙◌}
use Rattle.std.proofs.{Common.{ap, subst, inl, inr, lit<, bytes_eq, map}, lemmas.Slice.Eq.bytes_eq-Decides}
use Rattle.std.specs.{Prelude.{◌||◌, not, codes, find, if◌then◌else◌, is_some}, List.list_any}
use Rattle.decide_resource.specs.{Answers.{Gives, IsAnswer}, Reasons.{Before, IsFirst}, Requests.Request}
use Rattle.decide_resource.specs.declared.{answer.{Answer.Answer, Sends.Sends}, reason.Reason.Reason}
use Rattle.decide_resource.specs.declared.resource.{MethodRule.MethodRule, Resource.Resource, State.State}
use Rattle.decide_resource.specs.Applies.{applies, creates, has_method, has_moved, is_gone, is_implemented, is_missing}
use Rattle.decide_resource.specs.Applies.{rule_for, ruled}
use Rattle.decide_resource.specs.declared.resource.State.TheVariants as state
use Rattle.decide_resource.specs.declared.reason.Reason.TheVariants.{InvalidHost, Misdirected, Preflight, Denied}
use Rattle.decide_resource.specs.declared.reason.Reason.TheVariants.{UnknownMethod, MethodNotAllowed, UnmetExpectation}
use Rattle.decide_resource.specs.declared.reason.Reason.TheVariants.{PartialContent, Moved, Gone, NotFound, Options}
use Rattle.decide_resource.specs.declared.reason.Reason.TheVariants.{LengthRequired, ContentTooLarge}
use Rattle.decide_resource.specs.declared.reason.Reason.TheVariants.{UnsupportedMediaType, UnsupportedCoding}
use Rattle.decide_resource.specs.declared.reason.Reason.TheVariants.{NotAcceptable, PreconditionRequired, Admitted}
use Rattle.{decide_routes.specs.Routes.{IsNowhere, IsServerWide, idle_rule, told_of}, headers.specs.LineMap.Field}

-- ---- the rules

abbrev Told : Type 0
Told = List ℕ × Bool

abbrev is_of : List ℕ → Told → Bool
is_of own told = bytes_eq told.0 own

flip : (a b : List ℕ) → bytes_eq a b ≡ true → bytes_eq b a ≡ true
flip a b e = (bytes_eq-Decides b a).1 (sym ((bytes_eq-Decides a b).0 e))

-- a rule is found where one of the methods is the rule's
found_by : (own : List ℕ) (rules : List MethodRule)
    → is_some (find (λ (rule : MethodRule). bytes_eq rule.method own) rules) ≡ list_any (is_of own) (map told_of rules)
found_by own [] = refl
found_by own (rule ∷ rules) = by (bytes_eq rule.method own) (found_by own rules)
  where
    rest : Option MethodRule
    rest = find (λ (r : MethodRule). bytes_eq r.method own) rules

    by : (b : Bool) → is_some rest ≡ list_any (is_of own) (map told_of rules)
        → is_some (cond b (Some rule) rest) ≡ (b || list_any (is_of own) (map told_of rules))
    by true more = refl
    by false more = more

later : (b c : Bool) → c ≡ true → (b || c) ≡ true
later true c e = refl
later false c e = e

-- a method that a list has is that of one of its rules
idle_any : (m : List ℕ) (methods : List (List ℕ)) → list_any (bytes_eq m) methods ≡ true
    → list_any (is_of m) (map idle_rule methods) ≡ true
idle_any m [] any = absurd (cc any)
idle_any m (x ∷ methods) any = by (bytes_eq m x) refl any (idle_any m methods)
  where
    by : (v : Bool) → bytes_eq m x ≡ v → (v || list_any (bytes_eq m) methods) ≡ true
        → (list_any (bytes_eq m) methods ≡ true → list_any (is_of m) (map idle_rule methods) ≡ true)
        → (bytes_eq x m || list_any (is_of m) (map idle_rule methods)) ≡ true
    by true e any more = ap (λ (b : Bool). b || list_any (is_of m) (map idle_rule methods)) (flip m x e)
    by false e any more = later (bytes_eq x m) _ (more any)

-- there is a rule for GET, HEAD and each method that the server names
ruled_any : (m : List ℕ) (methods : List (List ℕ)) → is_implemented methods m ≡ true
    → list_any (is_of (ruled m)) ((codes "GET", false) ∷ map idle_rule methods) ≡ true
ruled_any m methods e = by (bytes_eq m (codes "GET")) refl (bytes_eq m (codes "HEAD")) refl e
  where
    by : (g : Bool) → bytes_eq m (codes "GET") ≡ g → (h : Bool) → bytes_eq m (codes "HEAD") ≡ h
        → ((g || h) || list_any (bytes_eq m) methods) ≡ true
        → list_any (is_of (if h then codes "GET" else m)) ((codes "GET", false) ∷ map idle_rule methods) ≡ true
    by g eg true eh any = refl
    by true eg false eh any =
        ap (λ (b : Bool). b || list_any (is_of m) (map idle_rule methods)) (flip m (codes "GET") eg)
    by false eg false eh any = later (bytes_eq (codes "GET") m) _ (idle_any m methods any)

module _ (resource : Resource)
    (rules : map told_of resource.rules.items ≡ (codes "GET", false) ∷ map idle_rule resource.implemented.items) where
  -- the resource has each method that the server implements
  has_implemented : (m : List ℕ) → is_implemented resource.implemented.items m ≡ true
      → has_method resource.rules.items m ≡ true
  unfolding rule_for
  has_implemented m implemented = later (bytes_eq m (codes "OPTIONS")) _
      (found_by (ruled m) resource.rules.items ∙ ap (list_any (is_of (ruled m))) rules
      ∙ ruled_any m resource.implemented.items implemented)

  unknown : (b c : Bool) → (b ≡ true → c ≡ true) → not c ≡ true → not (b || c) ≡ false → ⊥
  unknown true c has none known = let there = has refl in cc (none, there)
  unknown false c has none known = cc (none, known)

  -- so none that it lacks gets 405
  pub never_refused : (present : ℕ) (request : Request) (answer : Answer) → IsAnswer present resource request answer
      → answer.reason ≢ MethodNotAllowed
  never_refused present request answer is same =
      let first : IsFirst (applies present resource request) MethodNotAllowed = rw same at is.first in
      unknown (is_implemented resource.implemented.items request.method)
      (has_method resource.rules.items request.method) (has_implemented request.method) first.is
      (first.none_before UnknownMethod (lit< tt))

-- ---- what the rules make

abbrev makes : Told → Bool
makes told = told.1

-- no rule makes anything, so none that is found does
idle_found : (own : List ℕ) (rules : List MethodRule) → list_any makes (map told_of rules) ≡ false
    → creates (find (λ (rule : MethodRule). bytes_eq rule.method own) rules) ≡ false
idle_found own [] none = refl
idle_found own (rule ∷ rules) none = by (bytes_eq rule.method own) rule.creates refl none (idle_found own rules)
  where
    by : (v c : Bool) → rule.creates ≡ c → (c || list_any makes (map told_of rules)) ≡ false
        → (list_any makes (map told_of rules) ≡ false
        → creates (find (λ (r : MethodRule). bytes_eq r.method own) rules) ≡ false)
        → creates (cond v (Some rule) (find (λ (r : MethodRule). bytes_eq r.method own) rules)) ≡ false
    by v true e none more = absurd (cc none)
    by true false e none more = e
    by false false e none more = more none

some_makes : (rules : List MethodRule)
    → list_any (λ (rule : MethodRule). rule.creates) rules ≡ list_any makes (map told_of rules)
some_makes [] = refl
some_makes (rule ∷ rules) = ap (λ (b : Bool). rule.creates || b) (some_makes rules)

idle_makes : (methods : List (List ℕ)) → list_any makes (map idle_rule methods) ≡ false
idle_makes [] = refl
idle_makes (m ∷ methods) = idle_makes methods

-- ---- the reasons

module _ (present : ℕ) (resource : Resource) (request : Request)
    (not_moved : applies present resource request Moved ≡ false)
    (not_gone : applies present resource request Gone ≡ false) where
  module _ (missing : applies present resource request NotFound ≡ true) where
    past : (reason : Reason) → IsFirst (applies present resource request) reason → Before NotFound reason → ⊥
    past reason first later = let none = first.none_before NotFound later in cc (none, missing)

    pub answered : (reason : Reason) (status : Option ℕ) (sent : Sends) (own : List Field)
        → IsFirst (applies present resource request) reason → Gives present resource request reason status sent own
        → Before reason NotFound ⊎ (status ≡ Some 404)
    answered InvalidHost status sent own first gives = inl (lit< tt)
    answered Misdirected status sent own first gives = inl (lit< tt)
    answered Preflight status sent own first gives = inl (lit< tt)
    answered Denied status sent own first gives = inl (lit< tt)
    answered UnknownMethod status sent own first gives = inl (lit< tt)
    answered MethodNotAllowed status sent own first gives = inl (lit< tt)
    answered UnmetExpectation status sent own first gives = inl (lit< tt)
    answered PartialContent status sent own first gives = inl (lit< tt)
    answered Moved status sent own first gives = absurd (cc (not_moved, first.is))
    answered Gone status sent own first gives = absurd (cc (not_gone, first.is))
    answered NotFound status sent own first gives = inr gives.has_status
    answered Options status sent own first gives = absurd (past Options first (lit< tt))
    answered LengthRequired status sent own first gives = absurd (past LengthRequired first (lit< tt))
    answered ContentTooLarge status sent own first gives = absurd (past ContentTooLarge first (lit< tt))
    answered UnsupportedMediaType status sent own first gives = absurd (past UnsupportedMediaType first (lit< tt))
    answered UnsupportedCoding status sent own first gives = absurd (past UnsupportedCoding first (lit< tt))
    answered NotAcceptable status sent own first gives = absurd (past NotAcceptable first (lit< tt))
    answered PreconditionRequired status sent own first gives = absurd (past PreconditionRequired first (lit< tt))
    answered Admitted status sent own first gives = absurd (past Admitted first (lit< tt))

  module _ (found : applies present resource request NotFound ≡ false)
      (options : applies present resource request Options ≡ true) where
    behind : (reason : Reason) → IsFirst (applies present resource request) reason → Before Options reason → ⊥
    behind reason first later = let none = first.none_before Options later in cc (none, options)

    pub told : (reason : Reason) → IsFirst (applies present resource request) reason
        → Before reason NotFound ⊎ (reason ≡ Options)
    told InvalidHost first = inl (lit< tt)
    told Misdirected first = inl (lit< tt)
    told Preflight first = inl (lit< tt)
    told Denied first = inl (lit< tt)
    told UnknownMethod first = inl (lit< tt)
    told MethodNotAllowed first = inl (lit< tt)
    told UnmetExpectation first = inl (lit< tt)
    told PartialContent first = inl (lit< tt)
    told Moved first = absurd (cc (not_moved, first.is))
    told Gone first = absurd (cc (not_gone, first.is))
    told NotFound first = absurd (cc (found, first.is))
    told Options first = inr refl
    told LengthRequired first = absurd (behind LengthRequired first (lit< tt))
    told ContentTooLarge first = absurd (behind ContentTooLarge first (lit< tt))
    told UnsupportedMediaType first = absurd (behind UnsupportedMediaType first (lit< tt))
    told UnsupportedCoding first = absurd (behind UnsupportedCoding first (lit< tt))
    told NotAcceptable first = absurd (behind NotAcceptable first (lit< tt))
    told PreconditionRequired first = absurd (behind PreconditionRequired first (lit< tt))
    told Admitted first = absurd (behind Admitted first (lit< tt))

-- ---- a path without a resource

module _ (resource : Resource) (nowhere : IsNowhere resource) where
  abbrev rules : List MethodRule
  rules = resource.rules.items

  none_makes : list_any makes (map told_of rules) ≡ false
  none_makes = ap (list_any makes) nowhere.rules ∙ idle_makes resource.implemented.items

  missing : (present : ℕ) (request : Request) → applies present resource request NotFound ≡ true
  unfolding rule_for
  missing present request = ap (λ (s : State). is_missing s rules
      (find (λ (r : MethodRule). bytes_eq r.method (ruled request.method)) rules) request.method) nowhere.absent
      ∙ ap not (by (bytes_eq request.method (codes "OPTIONS")))
    where
      by : (b : Bool) → (if b then list_any (λ (r : MethodRule). r.creates) rules
          else creates (find (λ (r : MethodRule). bytes_eq r.method (ruled request.method)) rules)) ≡ false
      by true = some_makes rules ∙ none_makes
      by false = idle_found (ruled request.method) rules none_makes

  pub not_found : (present : ℕ) (request : Request) (answer : Answer) → IsAnswer present resource request answer
      → Before answer.reason NotFound ⊎ (answer.status ≡ Some 404)
  not_found present request answer is =
      answered present resource request (ap has_moved nowhere.absent) (ap is_gone nowhere.absent)
      (missing present request) answer.reason answer.status answer.sends is.own is.first is.gives

-- ---- the server in general

module _ (resource : Resource) (wide : IsServerWide resource) (present : ℕ) (request : Request) (answer : Answer)
    (is : IsAnswer present resource request answer) where
  general : applies present resource request NotFound ≡ not (bytes_eq request.method (codes "OPTIONS"))
  general = ap
      (λ (s : State). is_missing s resource.rules.items (rule_for resource.rules.items request.method) request.method)
      wide.general

  pub others_missing : request.method ≢ codes "OPTIONS" → Before answer.reason NotFound ⊎ (answer.status ≡ Some 404)
  others_missing other = answered present resource request (ap has_moved wide.general) (ap is_gone wide.general)
      (general ∙ ap not (unequal (bytes_eq request.method (codes "OPTIONS")) refl)) answer.reason answer.status
      answer.sends is.own is.first is.gives
    where
      unequal : (b : Bool) → bytes_eq request.method (codes "OPTIONS") ≡ b
          → bytes_eq request.method (codes "OPTIONS") ≡ false
      unequal true e = absurd (other ((bytes_eq-Decides request.method (codes "OPTIONS")).0 e))
      unequal false e = e

  pub options_told : request.method ≡ codes "OPTIONS" → Before answer.reason NotFound ⊎ (answer.reason ≡ Options)
  options_told options =
      let asks : bytes_eq request.method (codes "OPTIONS") ≡ true
      = (bytes_eq-Decides request.method (codes "OPTIONS")).1 options in
      told present resource request (ap has_moved wide.general) (ap is_gone wide.general) (general ∙ ap not asks) asks
      answer.reason is.first
