-- Allow lists the methods that a resource has.
use Rattle.std.proofs.Common.{arith, ◌≡◌, ◌↔◌, ℕ, Bool, true, false, cond, List, [], ◌∷◌, Option, Some, refl, sym, ◌∙◌}
use Rattle.std.proofs.{Common.{ap, bytes_eq}, lemmas.{List.Folds.list_any-append, Map.Views.Contains-from_any}}
use Rattle.std.{proofs.lemmas.{Map.Views.list_any-from_Contains, Slice.Eq.bytes_eq-Decides}, specs.Prelude.{◌||◌, not}}
use Rattle.std.specs.{Prelude.{Contains, codes, find, flat_map, is_some, if◌then◌else◌}, Cmp.IsEquivalence}
use Rattle.{std.specs.List.list_any, decide_resource.specs.Applies.{has_method, methods, methods_of, rule_for, ruled}}
use Rattle.decide_resource.specs.declared.resource.MethodRule.{MethodRule}

is_equal : (a b : List ℕ) → bytes_eq a b ≡ true → a ≡ b
is_equal a b = (bytes_eq-Decides a b).0

flip : (a b : List ℕ) → bytes_eq a b ≡ bytes_eq b a
flip a b = grind (arith, bytes_eq, bytes_eq-Decides, is_equal)

or_true : (b : Bool) → (b || true) ≡ true
or_true true = refl
or_true false = refl

or_false : (b : Bool) → (b || false) ≡ b
or_false true = refl
or_false false = refl

-- what a rule's method adds to Allow, by its name
abbrev listed : List ℕ → List (List ℕ)
listed x = if bytes_eq x (codes "GET") then codes "GET" ∷ codes "HEAD" ∷ [] else
    (if bytes_eq x (codes "HEAD") || bytes_eq x (codes "OPTIONS") then [] else x ∷ [])

-- a rule lists the methods that it is the rule for
rule_lists : (x m : List ℕ) → bytes_eq m (codes "OPTIONS") ≡ false
    → list_any (bytes_eq m) (listed x) ≡ bytes_eq x (ruled m)
rule_lists x m other = by (bytes_eq x (codes "GET")) refl (bytes_eq x (codes "HEAD")) refl
    (bytes_eq x (codes "OPTIONS")) refl (bytes_eq m (codes "HEAD")) refl
  where
    by : (b1 : Bool) → bytes_eq x (codes "GET") ≡ b1 → (b2 : Bool) → bytes_eq x (codes "HEAD") ≡ b2 → (b3 : Bool)
        → bytes_eq x (codes "OPTIONS") ≡ b3 → (h : Bool) → bytes_eq m (codes "HEAD") ≡ h → list_any (bytes_eq m)
        (if b1 then codes "GET" ∷ codes "HEAD" ∷ [] else (if b2 || b3 then [] else x ∷ []))
        ≡ bytes_eq x (if h then codes "GET" else m)
    by true e1 b2 e2 b3 e3 true e4 =
        ap (λ (b : Bool). bytes_eq m (codes "GET") || (b || false)) e4 ∙ or_true (bytes_eq m (codes "GET")) ∙ sym e1
    by true e1 b2 e2 b3 e3 false e4 =
        ap (λ (b : Bool). bytes_eq m (codes "GET") || (b || false)) e4 ∙ or_false (bytes_eq m (codes "GET"))
        ∙ flip m (codes "GET") ∙ ap (λ (y : List ℕ). bytes_eq y m) (sym (is_equal x (codes "GET") e1))
    by false e1 true e2 b3 e3 true e4 = sym e1
    by false e1 true e2 b3 e3 false e4 =
        sym (ap (λ (y : List ℕ). bytes_eq y m) (is_equal x (codes "HEAD") e2) ∙ flip (codes "HEAD") m ∙ e4)
    by false e1 false e2 true e3 true e4 = sym e1
    by false e1 false e2 true e3 false e4 =
        sym (ap (λ (y : List ℕ). bytes_eq y m) (is_equal x (codes "OPTIONS") e3) ∙ flip (codes "OPTIONS") m ∙ other)
    by false e1 false e2 false e3 true e4 = ap (λ (b : Bool). b || false)
        (ap (λ (y : List ℕ). bytes_eq y x) (is_equal m (codes "HEAD") e4) ∙ flip (codes "HEAD") x ∙ e2) ∙ sym e1
    by false e1 false e2 false e3 false e4 = or_false (bytes_eq m x) ∙ flip m x

some_or : (b : Bool) (rule : MethodRule) (found : Option MethodRule)
    → (b || is_some found) ≡ is_some (cond b (Some rule) found)
some_or true rule found = refl
some_or false rule found = refl

rules_list : (rules : List MethodRule) (m : List ℕ) → bytes_eq m (codes "OPTIONS") ≡ false
    → list_any (bytes_eq m) (flat_map methods_of rules)
    ≡ is_some (find (λ (rule : MethodRule). bytes_eq rule.method (ruled m)) rules)
rules_list [] m other = refl
rules_list (rule ∷ rules) m other =
    grind (arith, bytes_eq, list_any-append, rule_lists, some_or, rules_list rules m other)

-- the methods list just those that the resource has
pub methods_list : (rules : List MethodRule) (m : List ℕ) → list_any (bytes_eq m) (methods rules) ≡ has_method rules m
unfolding rule_for
methods_list rules m = grind (arith, list_any-append, bytes_eq, or_true, or_false, rules_list)

bytes_equivalence : IsEquivalence bytes_eq
bytes_equivalence = grind (arith, bytes_eq-Decides, flip, bytes_eq, is_equal)

pub allow_lists : (rules : List MethodRule) (m : List ℕ) → Contains (methods rules) m ↔ (has_method rules m ≡ true)
allow_lists rules m = (
  λ h. sym (methods_list rules m) ∙ list_any-from_Contains bytes_equivalence m (methods rules) h,
  λ h. Contains-from_any is_equal m (methods rules) (methods_list rules m ∙ h),
)

not_false : (b : Bool) → (b ≡ true) ↔ (not b ≡ false)
not_false true = (λ e. refl, λ e. refl)
not_false false = (λ e. cc e, λ e. cc e)

pub allow_is_exact : (rules : List MethodRule) (m : List ℕ)
    → Contains (methods rules) m ↔ (not (has_method rules m) ≡ false)
allow_is_exact rules m = grind (arith, allow_lists, not_false)
