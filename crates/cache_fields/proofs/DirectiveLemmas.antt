-- What the directives of a field direct, one after the other.
use Rattle.std.proofs.Common.{◌≡◌, ◌∙◌, ℕ, zero, suc, ◌<◌, Bool, true, false, List, [], ◌∷◌, Any, Option, Some, None}
use Rattle.std.proofs.{Common.{length, get_or, refl, sym, ap, subst, inl, inr, arith}, lemmas.Bool.cases_Bool}
use Rattle.std.{proofs.lemmas.Bool.{or_left, or_right}, specs.Prelude.{⊤, ◌||◌, IsTrue, IsSomeAnd, option_map, codes}}
use Rattle.{std.specs.{Option.{option_map_or, option_or}, List.list_any}, headers_map.specs.LineMap.LineMap}
use Rattle.rfc_fields.specs.{Directives.{DirectiveParts, is_named}, Scan.Member}
use Rattle.cache_fields.specs.Directives.{IsMalformed, Says, all_said, directed, directed_by, asks_always, directs}
use Rattle.cache_fields.specs.Directives.{is_argued, members, nothing, said_in, stores_nothing, strictest, with_later}
use Rattle.cache_fields.specs.declared.directives.Directives.{Directives}

or_assoc : (a b c : Bool) → (a || (b || c)) ≡ ((a || b) || c)
or_assoc true b c = refl
or_assoc false b c = refl

option_assoc : (a b c : Option ℕ) → option_or a (option_or b c) ≡ option_or (option_or a b) c
option_assoc None b c = refl
option_assoc (Some n) b c = refl

with_later-assoc : (a b c : Directives) → with_later a (with_later b c) ≡ with_later (with_later a b) c
with_later-assoc a b c = cc (
  or_assoc a.no_cache b.no_cache c.no_cache,
  or_assoc a.no_store b.no_store c.no_store,
  or_assoc a.only_if_cached b.only_if_cached c.only_if_cached,
  or_assoc a.must_revalidate b.must_revalidate c.must_revalidate,
  or_assoc a.proxy_revalidate b.proxy_revalidate c.proxy_revalidate,
  or_assoc a.must_understand b.must_understand c.must_understand,
  or_assoc a.public b.public c.public,
  or_assoc a.private b.private c.private,
  or_assoc a.immutable b.immutable c.immutable,
  option_assoc a.max_age b.max_age c.max_age,
  option_assoc a.s_max_age b.s_max_age c.s_max_age,
  option_assoc a.max_stale b.max_stale c.max_stale,
  option_assoc a.min_fresh b.min_fresh c.min_fresh,
  option_assoc a.stale_while_revalidate b.stale_while_revalidate c.stale_while_revalidate,
  option_assoc a.stale_if_error b.stale_if_error c.stale_if_error,
)

-- what the members that are left make of what was directed before them
abbrev pub directed_after : Directives → List Member → Directives
directed_after first left =
    option_map_or (λ directives. with_later first (directed_by directives)) (all_said left) strictest

or_false : (a : Bool) → (a || false) ≡ a
or_false true = refl
or_false false = refl

option_none : (a : Option ℕ) → option_or a None ≡ a
option_none None = refl
option_none (Some n) = refl

with_later-nothing : (a : Directives) → with_later a nothing ≡ a
with_later-nothing a = rw (
  or_false a.no_cache,
  or_false a.no_store,
  or_false a.only_if_cached,
  or_false a.must_revalidate,
  or_false a.proxy_revalidate,
  or_false a.must_understand,
  or_false a.public,
  or_false a.private,
  or_false a.immutable,
  option_none a.max_age,
  option_none a.s_max_age,
  option_none a.max_stale,
  option_none a.min_fresh,
  option_none a.stale_while_revalidate,
  option_none a.stale_if_error,
) refl

pub directed-next : (first : Directives) (directive : DirectiveParts) (member : Member) (left : List Member)
    → said_in member ≡ Some directive
    → directed_after first (member ∷ left) ≡ directed_after (with_later first (directs directive)) left
directed-next first directive member left e = rw e (by (all_said left))
  where
    by : (o : Option (List DirectiveParts)) → option_map_or (λ directives. with_later first (directed_by directives))
        (option_map (λ rest. directive ∷ rest) o) strictest
        ≡ option_map_or (λ directives. with_later (with_later first (directs directive)) (directed_by directives)) o
        strictest
    by None = refl
    by (Some rest) = with_later-assoc first (directs directive) (directed_by rest)

pub directed-ends : (first : Directives) → directed_after first [] ≡ first
directed-ends first = with_later-nothing first

-- ---- members that are no directives, and what some member says

none_by_first : (member : Member) (left : List Member) → said_in member ≡ None → all_said (member ∷ left) ≡ None
none_by_first member left e = rw e refl

none_by_rest : (member : Member) (left : List Member) → all_said left ≡ None → all_said (member ∷ left) ≡ None
none_by_rest member left e = by (said_in member) refl
  where
    by : (o : Option DirectiveParts) → said_in member ≡ o → all_said (member ∷ left) ≡ None
    by None f = none_by_first member left f
    by (Some directive) f = rw (f, e) refl

malformed_at : (all : List Member) (k : ℕ) (y : Member) → k < length all → get_or all k y ≡ y → said_in y ≡ None
    → all_said all ≡ None
malformed_at [] k y low e n = absurd (omega (arith, low))
malformed_at (member ∷ left) zero y low e n =
    none_by_first member left (subst (λ (m : Member). said_in m ≡ None) (sym e) n)
malformed_at (member ∷ left) (suc k) y low e n =
    none_by_rest member left (malformed_at left k y (omega (arith, low)) e n)

-- a malformed field directs as strictly as it can
pub malformed_is_strictest : (message : LineMap) → IsMalformed message → directed message ≡ strictest
malformed_is_strictest message a = ap (λ (o : Option (List DirectiveParts)). option_map_or directed_by o strictest)
    (malformed_at (members message) a.0 a.1 a.2 a.3 a.4)

-- the directives are those of some members, and one of them has the name
abbrev pub FindsNamed : List ℕ → Option (List DirectiveParts) → Type 0
FindsNamed name None = ⊤
FindsNamed name (Some directives) = list_any (is_named name) directives ≡ true

finds_first : (name : List ℕ) (member : Member) (left : List Member)
    → IsSomeAnd (said_in member) (λ directive. IsTrue (is_named name directive))
    → FindsNamed name (all_said (member ∷ left))
finds_first name member left h = by (said_in member) refl (all_said left) refl
  where
    by : (o : Option DirectiveParts) → said_in member ≡ o → (p : Option (List DirectiveParts)) → all_said left ≡ p
        → FindsNamed name (all_said (member ∷ left))
    by None e p f = absurd (rw e at h)
    by (Some directive) e None f = rw (e, f) tt
    by (Some directive) e (Some rest) f =
        let named : is_named name directive ≡ true = rw e at h in
        rw (e, f) (or_left (is_named name directive) (list_any (is_named name) rest) named)

finds_rest : (name : List ℕ) (member : Member) (left : List Member) → FindsNamed name (all_said left)
    → FindsNamed name (all_said (member ∷ left))
finds_rest name member left h = by (said_in member) refl (all_said left) refl
  where
    by : (o : Option DirectiveParts) → said_in member ≡ o → (p : Option (List DirectiveParts)) → all_said left ≡ p
        → FindsNamed name (all_said (member ∷ left))
    by None e p f = rw e tt
    by (Some directive) e None f = rw (e, f) tt
    by (Some directive) e (Some rest) f =
        let found : list_any (is_named name) rest ≡ true = rw f at h in
        rw (e, f) (or_right (is_named name directive) (list_any (is_named name) rest) found)

finds_at : (name : List ℕ) (all : List Member) (k : ℕ) (y : Member) → k < length all → get_or all k y ≡ y
    → IsSomeAnd (said_in y) (λ directive. IsTrue (is_named name directive)) → FindsNamed name (all_said all)
finds_at name [] k y low e h = absurd (omega (arith, low))
finds_at name (member ∷ left) zero y low e h = finds_first name member left
    (subst (λ (m : Member). IsSomeAnd (said_in m) (λ directive. IsTrue (is_named name directive))) (sym e) h)
finds_at name (member ∷ left) (suc k) y low e h =
    finds_rest name member left (finds_at name left k y (omega (arith, low)) e h)

-- what is said, is directed: each flag is set if some directive has its name
flag_no_store : (directives : List DirectiveParts) → list_any (is_named (codes "no-store")) directives ≡ true
    → (directed_by directives).no_store ≡ true
flag_no_store [] found = found
flag_no_store (d ∷ ds) found =
    let own : Bool = is_named (codes "no-store") d in
    elim (cases_Bool own) [
      | inl here ↦
          or_left (stores_nothing d) (directed_by ds).no_store
          (or_left own (is_argued (codes "must-understand") d) here)
      | inr other ↦
          or_right (stores_nothing d) (directed_by ds).no_store (flag_no_store ds (rw other at found))
    ]

flag_private : (directives : List DirectiveParts)
    → (directed_by directives).private ≡ list_any (is_named (codes "private")) directives
flag_private [] = refl
flag_private (d ∷ ds) = ap (λ (b : Bool). is_named (codes "private") d || b) (flag_private ds)

flag_no_cache : (directives : List DirectiveParts) → list_any (is_named (codes "no-cache")) directives ≡ true
    → (directed_by directives).no_cache ≡ true
flag_no_cache [] found = found
flag_no_cache (d ∷ ds) found =
    let own : Bool = is_named (codes "no-cache") d in
    elim (cases_Bool own) [
      | inl here ↦
          or_left (asks_always d) (directed_by ds).no_cache (or_left own (is_argued (codes "must-revalidate") d) here)
      | inr other ↦
          or_right (asks_always d) (directed_by ds).no_cache (flag_no_cache ds (rw other at found))
    ]

module _ (message : LineMap) where
  pub said_no_store : Says (codes "no-store") message → (directed message).no_store ≡ true
  said_no_store a = by (all_said (members message)) refl
    where
      by : (o : Option (List DirectiveParts)) → all_said (members message) ≡ o → (directed message).no_store ≡ true
      by None e = rw e refl
      by (Some directives) e =
          let found : list_any (is_named (codes "no-store")) directives ≡ true =
          rw e at (finds_at (codes "no-store") (members message) a.0 a.1 a.2 a.3 a.4) in
          rw e (flag_no_store directives found)

  pub said_private : Says (codes "private") message → (directed message).private ≡ true
  said_private a = by (all_said (members message)) refl
    where
      by : (o : Option (List DirectiveParts)) → all_said (members message) ≡ o → (directed message).private ≡ true
      by None e = rw e refl
      by (Some directives) e =
          let found : list_any (is_named (codes "private")) directives ≡ true =
          rw e at (finds_at (codes "private") (members message) a.0 a.1 a.2 a.3 a.4) in
          rw e (flag_private directives ∙ found)

  pub said_no_cache : Says (codes "no-cache") message → (directed message).no_cache ≡ true
  said_no_cache a = by (all_said (members message)) refl
    where
      by : (o : Option (List DirectiveParts)) → all_said (members message) ≡ o → (directed message).no_cache ≡ true
      by None e = rw e refl
      by (Some directives) e =
          let found : list_any (is_named (codes "no-cache")) directives ≡ true =
          rw e at (finds_at (codes "no-cache") (members message) a.0 a.1 a.2 a.3 a.4) in
          rw e (flag_no_cache directives found)

-- what is directed, some member says
says_from : (name : List ℕ) (all : List Member) (directives : List DirectiveParts) → all_said all ≡ Some directives
    → list_any (is_named name) directives ≡ true
    → Any (λ member. IsSomeAnd (said_in member) (λ directive. IsTrue (is_named name directive))) all
says_from name [] directives e found =
    let none : [] ≡ directives = cc e in
    let no : false ≡ true = subst (λ (ds : List DirectiveParts). list_any (is_named name) ds ≡ true) (sym none) found in
    absurd (cc no)
says_from name (member ∷ left) directives e found = by (said_in member) refl (all_said left) refl (says_from name left)
  where
    P : Member → Type 0
    P m = IsSomeAnd (said_in m) (λ directive. IsTrue (is_named name directive))

    by : (o : Option DirectiveParts) → said_in member ≡ o → (p : Option (List DirectiveParts)) → all_said left ≡ p
        → ((ds : List DirectiveParts) → all_said left ≡ Some ds → list_any (is_named name) ds ≡ true → Any P left)
        → Any P (member ∷ left)
    by None f p g again = let no : None ≡ Some directives = rw f at e in absurd (cc no)
    by (Some directive) f None g again = let no : None ≡ Some directives = rw (f, g) at e in absurd (cc no)
    by (Some directive) f (Some rest) g again =
        let same : Some (directive ∷ rest) ≡ Some directives = rw (f, g) at e in
        let is : directive ∷ rest ≡ directives = cc same in
        let some : (is_named name directive || list_any (is_named name) rest) ≡ true =
        subst (λ (ds : List DirectiveParts). list_any (is_named name) ds ≡ true) (sym is) found in
        elim (cases_Bool (is_named name directive)) [
          | inl here ↦ (0, member, omega arith, refl, rw (f, here) refl)
          | inr other ↦
              let later = again rest g (rw other at some) in
              (suc later.0, later.1, omega (arith, later.2), later.3, later.4)
        ]

flag_must_understand : (directives : List DirectiveParts)
    → list_any (is_named (codes "must-understand")) directives ≡ false
    → (directed_by directives).must_understand ≡ false
flag_must_understand [] none = refl
flag_must_understand (d ∷ ds) none = elim (cases_Bool (is_named (codes "must-understand") d)) [
  | inl here ↦ let no : true ≡ false = rw here at none in absurd (cc no)
  | inr other ↦ rw other (flag_must_understand ds (rw other at none))
]

pub unsaid_must_understand : (message : LineMap) → ¬ (Says (codes "must-understand") message)
    → (directed message).must_understand ≡ false
unsaid_must_understand message n = by (all_said (members message)) refl
  where
    by : (o : Option (List DirectiveParts)) → all_said (members message) ≡ o
        → (directed message).must_understand ≡ false
    by None e = rw e refl
    by (Some directives) e = elim (cases_Bool (list_any (is_named (codes "must-understand")) directives)) [
      | inl found ↦ absurd (n (says_from (codes "must-understand") (members message) directives e found))
      | inr none ↦ rw e (flag_must_understand directives none)
    ]
