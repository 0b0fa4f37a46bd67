-- The members of a dictionary, one after the other.
use Rattle.rfc_values.proofs.ItemLemmas.{inner-within, item-shorter, key-shorter, parameters-within, reads-cond}
use Rattle.rfc_values.proofs.ItemLemmas.{reads-none, reads-some, ReadsWithin, run-shorter, Within}
use Rattle.rfc_values.specs.{Bytes.after_run, declared.bytes.Class.TheVariants.Blank, Dictionaries.{after_comma, entry}}
use Rattle.rfc_values.specs.Dictionaries.{Entry, entry_by, length_of, member_value, MemberParts, members_in}
use Rattle.rfc_values.specs.{Dictionaries.{members_within, next_members, value_behind}, Items.after_key}
use Rattle.{rfc_values.specs.Items.{after_parameters, Reading, ValueParts.Other}, std.proofs.Common.{[], arith, Bool}}
use Rattle.std.proofs.Common.{cond, length, List, None, Option, option_and_then, option_map, refl, rules, Some, suc}
use Rattle.std.proofs.Common.{sym, zero, ℕ, ◌<◌, ◌∙◌, ◌∷◌, ◌≡◌, ◌≤◌}

inner-reads : (n : ℕ) (o : Option (List ℕ)) → Within n o
    → ReadsWithin n (option_map (λ rest. record { value = Other; rest = rest }) o)
inner-reads n o h = grind (arith, reads-none, reads-some)

member_value-within : (s : List ℕ) → ReadsWithin (length s) (member_value s)
member_value-within s = grind (arith, reads-none, reads-cond, inner-reads, inner-within, item-shorter)

value_behind-within : (s : List ℕ) → ReadsWithin (length s) (value_behind s)
value_behind-within s = grind (arith, reads-some, reads-cond, member_value-within)

-- the members that follow, if there are some, are no longer than this
abbrev pub FollowsWithin : ℕ → Option (Option (List ℕ)) → Type 0
FollowsWithin n o = (t : List ℕ) → o ≡ Some (Some t) → length t ≤ n

follows-none : (n : ℕ) → FollowsWithin n None
follows-none n t e = absurd (let h : None ≡ Some (Some t) = e in cc)

follows-last : (n : ℕ) → FollowsWithin n (Some None)
follows-last n t e = absurd (let h : Some None ≡ Some (Some t) = e in cc)

some_some : (a b : List ℕ) → Some (Some a) ≡ Some (Some b) → a ≡ b
some_some a b e = cc

follows-some : (n : ℕ) (s : List ℕ) → length s ≤ n → FollowsWithin n (Some (Some s))
follows-some n s h t e = grind (arith, h, some_some s t e)

comma-within : (s : List ℕ) → FollowsWithin (length s) (after_comma s)
comma-within s = grind (arith, follows-none, follows-some)

follows-cond : (n : ℕ) (v : Bool) (x y : Option (Option (List ℕ))) → FollowsWithin n x → FollowsWithin n y
    → FollowsWithin n (cond v x y)
follows-cond n v x y p q = grind arith

next-within : (s : List ℕ) → FollowsWithin (length s) (next_members s)
next-within s = grind (arith, follows-last, follows-cond, comma-within, run-shorter, follows-none)

-- what follows an entry is shorter than this
abbrev pub ShrinksTo : ℕ → Option Entry → Type 0
ShrinksTo n o = (one : Entry) (t : List ℕ) → o ≡ Some one → one.next ≡ Some t → length t ≤ n

shrinks-none : (n : ℕ) → ShrinksTo n None
shrinks-none n one t e f = absurd (let h : None ≡ Some one = e in cc)

some_entry : (a b : Entry) → Some a ≡ Some b → a ≡ b
some_entry a b e = cc

last-shrinks : (n : ℕ) (member : MemberParts) (o : Option (Option (List ℕ))) → FollowsWithin n o
    → ShrinksTo n (option_map (λ next. record { member = member; next = next }) o)
last-shrinks n member o h one t e f = grind (arith, shrinks-none, some_entry)

rest-shrinks : (n : ℕ) (key : List ℕ) (reading : Reading) (o : Option (List ℕ)) → Within n o
    → ShrinksTo n (option_and_then (λ rest. option_map (λ next. record {
      member = record { key = key; value = reading.value };
      next = next;
    }) (next_members (after_run Blank rest))) o)
rest-shrinks n key reading None h = shrinks-none n
rest-shrinks n key reading (Some rest) h = last-shrinks n _ (next_members (after_run Blank rest))
    (λ t e. omega (arith, next-within (after_run Blank rest) t e, run-shorter Blank rest, h rest refl))

value-shrinks : (n : ℕ) (key : List ℕ) (o : Option Reading) → ReadsWithin n o
    → ShrinksTo n (option_and_then (λ reading. option_and_then (λ rest. option_map (λ next. record {
      member = record { key = key; value = reading.value };
      next = next;
    }) (next_members (after_run Blank rest))) (after_parameters reading.rest)) o)
value-shrinks n key None h = shrinks-none n
value-shrinks n key (Some reading) h = rest-shrinks n key reading (after_parameters reading.rest)
    (λ r e. omega (arith, parameters-within reading.rest r e, h reading refl))

entry_by-shrinks : (text behind : List ℕ) → ShrinksTo (length behind) (entry_by text behind)
entry_by-shrinks text behind = search (rules, value-shrinks, value_behind-within)

key-shrinks : (text : List ℕ) (o : Option (List ℕ)) → ((r : List ℕ) → o ≡ Some r → length r < length text)
    → (one : Entry) (t : List ℕ) → option_and_then (entry_by text) o ≡ Some one → one.next ≡ Some t
    → length t < length text
key-shrinks text o h one t e f = grind (arith, entry_by-shrinks)

-- what follows a member is shorter than the text
pub entry-shorter : (text : List ℕ) (one : Entry) (t : List ℕ) → entry text ≡ Some one → one.next ≡ Some t
    → length t < length text
entry-shorter text one t e f = key-shrinks text (after_key text) (key-shorter text) one t e f

next-smaller : (text : List ℕ) (one : Entry) (o : Option (List ℕ)) → entry text ≡ Some one → one.next ≡ o
    → length_of o < length_of (Some text)
next-smaller text one o e f = grind (arith, entry-shorter)

pub entry-smaller : (text : List ℕ) (one : Entry) → entry text ≡ Some one → length_of one.next < length_of (Some text)
entry-smaller text one e = next-smaller text one one.next e refl

within-suc : (n : ℕ) (text : List ℕ) → members_within (suc n) (Some text)
    ≡ option_and_then (λ one. option_map (λ others. one.member ∷ others) (members_within n one.next)) (entry text)
unfolding members_within
within-suc n text = refl

within-end : (n : ℕ) → members_within (suc n) None ≡ Some []
unfolding members_within
within-end n = refl

entry-same : (o : Option Entry) (n m : ℕ)
    → ((one : Entry) → o ≡ Some one → members_within n one.next ≡ members_within m one.next)
    → option_and_then (λ one. option_map (λ others. one.member ∷ others) (members_within n one.next)) o
    ≡ option_and_then (λ one. option_map (λ others. one.member ∷ others) (members_within m one.next)) o
entry-same o n m h = grind arith

stable : (n m : ℕ) (text : Option (List ℕ)) → length_of text < n → length_of text < m
    → members_within n text ≡ members_within m text
stable zero m text a b = absurd (omega (arith, a))
stable (suc n) zero text a b = absurd (omega (arith, b))
stable (suc n) (suc m) None a b = within-end n ∙ sym (within-end m)
stable (suc n) (suc m) (Some text) a b = within-suc n text
    ∙ entry-same (entry text) n m (λ one e. stable n m one.next (omega (arith, entry-smaller text one e, a))
    (omega (arith, entry-smaller text one e, b)))
    ∙ sym (within-suc m text)

-- behind nothing are no members
pub members-end : members_in None ≡ Some []
members-end = within-end 0

-- a member, and those that follow it
pub members-next : (text : List ℕ) (one : Entry) → entry text ≡ Some one
    → members_in (Some text) ≡ option_map (λ others. one.member ∷ others) (members_in one.next)
members-next text one e = grind (arith, within-suc, stable, entry-smaller)

-- a malformed member
pub members-malformed : (text : List ℕ) → entry text ≡ None → members_in (Some text) ≡ None
members-malformed text e = grind (arith, within-suc)
