-- Dictionaries (RFC 8941, sections 3.2 and 4.2.2).
use Rattle.std.specs.Prelude.{ℕ, zero, suc, true, ◌==◌, List, [], ◌∷◌, length, Option, Some, None, option_and_then}
use Rattle.std.specs.Prelude.{option_map, if◌then◌else◌}
use Rattle.rfc_values.{specs.Bytes.{after_run, before}, specs.Items.{Reading, ValueParts, after_inner, after_key}}
use Rattle.rfc_values.{specs.Items.{after_parameters, bare_item}, specs.Items.ValueParts.{Boolean, Other}}
use Rattle.rfc_values.specs.declared.bytes.Class.TheVariants.{Blank}

-- a member: its key, and its value without parameters
pub record MemberParts : Type 0 where
  pub key : List ℕ
  pub value : ValueParts

-- a member, and the members that follow it, if one does
pub record Entry : Type 0 where
  pub member : MemberParts
  pub next : Option (List ℕ)

-- the value behind `=`: an inner list, or an item
abbrev pub member_value : List ℕ → Option Reading
member_value [] = None
member_value (b ∷ s) =
    if b == 40 then option_map (λ rest. record { value = Other; rest = rest }) (after_inner s)
    else bare_item (b ∷ s)

-- what a member has behind its key; without a value it is true
abbrev pub value_behind : List ℕ → Option Reading
value_behind [] = Some (record { value = Boolean true; rest = [] })
value_behind (b ∷ s) =
    if b == 61 then member_value s else Some (record { value = Boolean true; rest = b ∷ s })

-- the members behind a comma and blanks, of which there is one at least
abbrev pub after_comma : List ℕ → Option (Option (List ℕ))
after_comma [] = None
after_comma (b ∷ s) = Some (Some (b ∷ s))

-- what stands behind a member and blanks: nothing, or a comma and more members
abbrev pub next_members : List ℕ → Option (Option (List ℕ))
next_members [] = Some None
next_members (b ∷ s) = if b == 44 then after_comma (after_run Blank s) else None

-- the member with this text behind its key
abbrev pub entry_by : List ℕ → List ℕ → Option Entry
entry_by text behind =
    option_and_then (λ reading. option_and_then (λ rest. option_map (λ next. record {
      member = record { key = before text behind; value = reading.value };
      next = next;
    }) (next_members (after_run Blank rest))) (after_parameters reading.rest)) (value_behind behind)

-- the first member of a text, and those that follow it
abbrev pub entry : List ℕ → Option Entry
entry text = option_and_then (entry_by text) (after_key text)

-- the members of a text, if there are fewer than so many
unfoldable pub members_within : ℕ → Option (List ℕ) → Option (List MemberParts)
members_within zero text = None
members_within (suc n) None = Some []
members_within (suc n) (Some text) =
    option_and_then (λ one. option_map (λ others. one.member ∷ others) (members_within n one.next)) (entry text)

abbrev pub length_of : Option (List ℕ) → ℕ
length_of None = 0
length_of (Some text) = suc (length text)

-- The members that a text has, if there is one, in their order. Each member has a byte at least.
abbrev pub members_in : Option (List ℕ) → Option (List MemberParts)
members_in text = members_within (suc (length_of text)) text

-- The members of a field line, in their order, if it is a dictionary that isn't empty. Blanks before the first member
-- are no part of a field line.
abbrev pub dictionary : List ℕ → Option (List MemberParts)
dictionary text = members_in (Some text)
