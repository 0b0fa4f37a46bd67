-- Which response a number names.
use Rattle.std.proofs.Common.{[], ◌++◌, ◌+◌, ◌<◌, ◌∷◌, ◌≡◌, ◌≢◌, ◌≤◌, Bool, cond, false, List, suc, true, zero, ℕ}
use Rattle.std.proofs.Common.{ap, arith, get_or, inl, inr, length, None, Option, refl, remove, slice_get, Some, sym}
use Rattle.std.proofs.{Common.{◌∙◌, drop, option_to_list, take}, lemmas.{Bool.cases_lt, Option.same_Some}}
use Rattle.std.proofs.lemmas.List.Sums.{sum_by-append, sum_by-cons, sum_by-remove, sum_by-take-drop}
use Rattle.{cache_rules.specs.declared.stored.StoredResponse.StoredResponse, cache_store.specs.History.Has}
use Rattle.cache_store.specs.{Contents.{Contents, is_for, responses_at, Target}, Numbers.{AreNumbered, AreNumberedWith}}
use Rattle.cache_store.specs.Numbers.{AreRenumbered, has_number, IsSameOrNumbered, numbered, times_in, times_used}

-- a response counts once under its own number, and not under another
abbrev one_if : Bool → ℕ
one_if is = cond is 1 0

abbrev one_in : ℕ → StoredResponse → ℕ
one_in number stored = one_if (has_number number stored)

pub times-cons : (number : ℕ) (stored : StoredResponse) (rest : List StoredResponse)
    → times_in number (stored ∷ rest) ≡ one_in number stored + times_in number rest
times-cons number stored rest = sum_by-cons (one_in number) stored rest

own-number : (number : ℕ) (stored : StoredResponse) → stored.number ≡ number → has_number number stored ≡ true
own-number number stored same = grind (arith, same)

is-number : (number : ℕ) (stored : StoredResponse) → has_number number stored ≡ true → stored.number ≡ number
is-number number stored is = grind (arith, is)

not-number : (number : ℕ) (stored : StoredResponse) → has_number number stored ≡ false → stored.number ≢ number
not-number number stored isnt = grind (arith, isnt)

pub one-own : (number : ℕ) (stored : StoredResponse) → stored.number ≡ number → one_in number stored ≡ 1
one-own number stored same = ap one_if (own-number number stored same)

pub one-other : (number : ℕ) (stored : StoredResponse) → stored.number ≢ number → one_in number stored ≡ 0
one-other number stored differs = (elim (has_number number stored) as (λ b. has_number number stored ≡ b
    → one_if b ≡ 0) [ true ↦ λ t. absurd (differs (is-number number stored t)) | false ↦ λ t. refl ]) refl

-- one that is there counts
pub times-has : (number : ℕ) (xs : List StoredResponse) (stored : StoredResponse) → Has xs stored
    → stored.number ≡ number → 1 ≤ times_in number xs
times-has number [] stored none same = absurd none
times-has number (x ∷ xs) stored (inl is) same =
    omega (arith, times-cons number x xs, one-own number x (ap (λ (s : StoredResponse). s.number) is ∙ same))
times-has number (x ∷ xs) stored (inr h) same = omega (arith, times-cons number x xs, times-has number xs stored h same)

-- where no two have the number, the one at a place is the one that it names
pub numbered-at : (xs : List StoredResponse) (i : ℕ) (stored : StoredResponse)
    → ((number : ℕ) → times_in number xs ≤ 1) → slice_get xs i ≡ Some stored → numbered stored.number xs ≡ Some stored
numbered-at [] i stored once at = absurd (grind (arith, at))
numbered-at (x ∷ xs) zero stored once at = let same : x ≡ stored = grind (arith, at) in
    rw (own-number stored.number x (ap (λ (s : StoredResponse). s.number) same)) (ap Some same)
numbered-at (x ∷ xs) (suc i) stored once at =
    let here = at-has xs i stored at in
    (elim (has_number stored.number x) as (λ b. has_number stored.number x ≡ b
    → cond b (Some x) (numbered stored.number xs) ≡ Some stored) [
      | true ↦ λ t. absurd (omega (
        arith,
        once stored.number,
        times-cons stored.number x xs,
        one-own stored.number x (is-number stored.number x t),
        times-has stored.number xs stored here refl,
      ))
      | false ↦ λ t. numbered-at xs i stored (λ number. omega (arith, once number, times-cons number x xs)) at
    ]) refl
  where
    at-has : (xs : List StoredResponse) (i : ℕ) (stored : StoredResponse) → slice_get xs i ≡ Some stored → Has xs stored
    at-has [] i stored at = absurd (grind (arith, at))
    at-has (x ∷ xs) zero stored at = inl (grind (arith, at))
    at-has (x ∷ xs) (suc i) stored at = inr (at-has xs i stored at)

-- the one that a number names is there, and has it
pub Has-numbered : (xs : List StoredResponse) (number : ℕ) (stored : StoredResponse) → numbered number xs ≡ Some stored
    → Has xs stored × (stored.number ≡ number)
Has-numbered [] number stored at = absurd (grind (arith, at))
Has-numbered (x ∷ xs) number stored at = (elim (has_number number x) as (λ b. has_number number x ≡ b
    → cond b (Some x) (numbered number xs) ≡ Some stored → Has (x ∷ xs) stored × (stored.number ≡ number)) [
      | true ↦ λ t k. let same = same_Some x stored k in (
        inl same,
        ap (λ (s : StoredResponse). s.number) (sym same) ∙ is-number number x t,
      )
      | false ↦ λ t k. let on = Has-numbered xs number stored k in (inr on.0, on.1)
    ]) refl at

-- ---- what a store has

pub used-cons : (number : ℕ) (entry : Target) (contents : Contents)
    → times_used number (entry ∷ contents) ≡ times_in number entry.1 + times_used number contents
used-cons number entry contents = sum_by-cons (λ (e : Target). times_in number e.1) entry contents

pub times-at : (target : List ℕ) (number : ℕ) (contents : Contents)
    → times_in number (responses_at target contents) ≤ times_used number contents
times-at target number [] = omega arith
times-at target number (entry ∷ contents) = elim (is_for target entry) as (λ b. times_in number (cond b entry.1
    (responses_at target contents)) ≤ times_used number (entry ∷ contents)) [
      | true ↦ omega (arith, used-cons number entry contents)
      | false ↦ omega (arith, used-cons number entry contents, times-at target number contents)
    ]

-- those of one target are numbered apart
pub distinct-at : (next : ℕ) (target : List ℕ) (contents : Contents) → AreNumbered next contents → (number : ℕ)
    → times_in number (responses_at target contents) ≤ 1
distinct-at next target contents are number = omega (arith, times-at target number contents, are.once number)

pub numbered-fewer : (next : ℕ) (old new : Contents)
    → ((number : ℕ) → times_used number new ≤ times_used number old) → AreNumbered next old → AreNumbered next new
numbered-fewer next old new fewer are = record {
  some = are.some;
  once = λ number. omega (arith, fewer number, are.once number);
  below = λ number past. omega (arith, fewer number, are.below number past);
}

pub numbered-later : (next later : ℕ) (contents : Contents) → next ≤ later → AreNumbered next contents
    → AreNumbered later contents
numbered-later next later contents rises are = record {
  some = omega (arith, rises, are.some);
  once = are.once;
  below = λ number past. are.below number (omega (arith, rises, past));
}

-- ---- where a new response is put

pub times-last : (number : ℕ) (xs : List StoredResponse) (new : StoredResponse)
    → times_in number (xs ++ new ∷ []) ≡ times_in number xs + one_in number new
times-last number xs new =
    omega (arith, sum_by-append (one_in number) xs (new ∷ []), sum_by-cons (one_in number) new [])

pub times-remove : (number : ℕ) (xs : List StoredResponse) (i : ℕ) (d : StoredResponse) → i < length xs
    → times_in number (remove xs i) + one_in number (get_or xs i d) ≡ times_in number xs
times-remove number xs i d within = sum_by-remove (one_in number) xs i d within

pub fewer-removed : (number : ℕ) (xs : List StoredResponse) (i : ℕ) (d : StoredResponse) → i < length xs
    → times_in number (remove xs i) ≤ times_in number xs
fewer-removed number xs i d within = omega (arith, times-remove number xs i d within)

-- a new response, beside a part of what was there
module _ (next : ℕ) (new : StoredResponse) (old other rest : Contents) (taken others kept : List StoredResponse)
    (are : AreNumbered next old) (last : next ≡ new.number + 1) (unused : times_used new.number old ≡ 0)
    (all : (number : ℕ) → times_used number other + times_in number taken ≡ times_used number old)
    (fewer : (number : ℕ) → times_in number others ≤ times_in number taken)
    (trimmed : ℕ) (is_kept : kept ≡ drop trimmed others) (front : ℕ) (is_rest : rest ≡ take front other) where
  within : (number : ℕ) → times_in number kept + times_used number rest ≤ times_used number old
  within number = let rests = sum_by-take-drop (λ (e : Target). times_in number e.1) other front in
      let keeps = sum_by-take-drop (one_in number) others trimmed in
      omega (arith, all number, fewer number, ap (times_in number) is_kept, ap (times_used number) is_rest)

  pub numbered-inserted : AreNumberedWith next (kept ++ new ∷ []) rest
  numbered-inserted = record {
    once = λ number. (elim (has_number number new) as (λ b. has_number number new ≡ b
        → times_in number (kept ++ new ∷ []) + times_used number rest ≤ 1) [
          | true ↦ λ t. let same = is-number number new t in
              let is_unused = ap (λ n. times_used n old) same in
              omega (arith, within number, times-last number kept new, one-own number new same)
          | false ↦ λ t.
              let other_one = one-other number new (not-number number new t) in
              omega (arith, within number, times-last number kept new, are.once number)
        ]) refl;
    below = λ number past.
        let other_one = one-other number new (λ same. omega (arith, same, last, past)) in
        omega (arith, within number, times-last number kept new, are.below number past);
  }

-- what is left of updated responses, and perhaps the answer beside it
module _ (next later first : ℕ) (old other : Contents) (taken these left : List StoredResponse)
    (are : AreNumbered next old)
    (all : (number : ℕ) → times_used number other + times_in number taken ≡ times_used number old)
    (is_first : first ≡ next) (is_later : later ≡ next + length taken)
    (fewer : (number : ℕ) → times_in number these ≤ times_in number taken)
    (renumbered : AreRenumbered first (first + length these) these left) (short : length these ≤ length taken) where
  left-once : (number : ℕ) → times_in number left + times_used number other ≤ 1
  left-once number = elim (cases_lt number first) [
    | inl before ↦ omega (arith, renumbered.before number before, fewer number, all number, are.once number)
    | inr from ↦ elim (cases_lt number (first + length these)) [
      | inl given ↦
          let unused_past = are.below number (omega (arith, is_first, from)) in
          omega (arith, renumbered.given number from given, fewer number, all number)
      | inr after ↦ omega (arith, renumbered.after number after, fewer number, all number, are.once number)
    ]
  ]

  left-below : (number : ℕ) → first + length these ≤ number → times_in number left + times_used number other ≡ 0
  left-below number past = let unused_past = are.below number (omega (arith, is_first, past)) in
      omega (arith, renumbered.after number past, fewer number, all number)

  pub numbered-left : AreNumberedWith later left other
  numbered-left = record {
    once = left-once;
    below = λ number past. left-below number (omega (arith, is_first, is_later, short, past));
  }

  pub numbered-again : (fresh : StoredResponse) → fresh.number ≡ first + length these
      → length these + 1 ≡ length taken → AreNumberedWith later (left ++ fresh ∷ []) other
  numbered-again fresh last one_less = record {
    once = λ number. (elim (has_number number fresh) as (λ b. has_number number fresh ≡ b
        → times_in number (left ++ fresh ∷ []) + times_used number other ≤ 1) [
          | true ↦ λ t.
              let none_left = left-below number (omega (arith, last, is-number number fresh t)) in
              omega (arith, times-last number left fresh, one-own number fresh (is-number number fresh t))
          | false ↦ λ t.
              let other_one = one-other number fresh (not-number number fresh t) in
              omega (arith, times-last number left fresh, left-once number)
        ]) refl;
    below = λ number past. omega (
      arith,
      times-last number left fresh,
      one-other number fresh (λ same. omega (arith, same, last, is_first, is_later, one_less, past)),
      left-below number (omega (arith, is_first, is_later, short, past)),
    );
  }

-- ---- what is left of responses that are updated

times-same : (number : ℕ) (one new : StoredResponse) → new ≡ one → times_in number (new ∷ []) ≤ one_in number one
times-same number one new same = omega (arith, times-cons number new [], ap (one_in number) same)

one-most : (number : ℕ) (one : StoredResponse) → one_in number one ≤ 1
one-most number one = elim (has_number number one) as (λ b. one_if b ≤ 1) [ true ↦ omega arith | false ↦ omega arith ]

fate-other : (number given : ℕ) (one : StoredResponse) (fate : Option StoredResponse)
    → IsSameOrNumbered one given fate → number ≢ given → times_in number (option_to_list fate) ≤ one_in number one
fate-other number given one None is differs = omega arith
fate-other number given one (Some new) (inl same) differs = times-same number one new same
fate-other number given one (Some new) (inr named) differs =
    omega (arith, times-cons number new [], one-other number new (λ same. differs (sym same ∙ named)))

fate-most : (number : ℕ) (fate : Option StoredResponse) → times_in number (option_to_list fate) ≤ 1
fate-most number None = omega arith
fate-most number (Some new) = omega (arith, times-cons number new [], one-most number new)

-- so far, with the numbers before this one
pub record AreRenumbering (first last : ℕ) (all left rest : List StoredResponse) : Type 0 where
  pub before : (number : ℕ) → number < first → times_in number left + times_in number rest ≤ times_in number all
  pub given : (number : ℕ) → first ≤ number → number < last
      → times_in number left + times_in number rest ≤ times_in number all + 1
  pub after : (number : ℕ) → last ≤ number → times_in number left + times_in number rest ≤ times_in number all

pub renumbering-none : (first : ℕ) (all : List StoredResponse) → AreRenumbering first first all [] all
renumbering-none first all = record {
  before = λ number past. omega arith;
  given = λ number from past. omega arith;
  after = λ number past. omega arith;
}

pub renumbering-next : (first last : ℕ) (all left next others these : List StoredResponse) (one : StoredResponse)
    (fate : Option StoredResponse) → first ≤ last → these ≡ one ∷ others → next ≡ left ++ option_to_list fate
    → IsSameOrNumbered one last fate → AreRenumbering first last all left these
    → AreRenumbering first (last + 1) all next others
renumbering-next first last all left next others these one fate from split put is so_far = record {
  before = λ number past. let fates = fate-other number last one fate is (λ same. omega (arith, same, past, from)) in
      omega (arith, so_far.before number past, counts number);
  given = λ number above past. elim (cases_lt number last) [
    | inl earlier ↦
        let fates = fate-other number last one fate is (λ same. omega (arith, same, earlier)) in
        omega (arith, so_far.given number above earlier, counts number)
    | inr now ↦ omega (arith, so_far.after number now, counts number, fate-most number fate)
  ];
  after = λ number past.
      let fates = fate-other number last one fate is (λ same. omega (arith, same, past)) in
      omega (arith, so_far.after number (omega (arith, past)), counts number);
}
  where
    counts : (number : ℕ) → (times_in number next ≡ times_in number left + times_in number (option_to_list fate))
        × (times_in number these ≡ one_in number one + times_in number others)
    counts number = let more = ap (times_in number) put ∙ sum_by-append (one_in number) left (option_to_list fate) in
        (more, ap (times_in number) split ∙ times-cons number one others)

pub renumbering-end : (first last : ℕ) (all left rest : List StoredResponse) → AreRenumbering first last all left rest
    → AreRenumbered first last all left
renumbering-end first last all left rest so_far = record {
  before = λ number past. omega (arith, so_far.before number past);
  given = λ number from past. omega (arith, so_far.given number from past);
  after = λ number past. omega (arith, so_far.after number past);
}
