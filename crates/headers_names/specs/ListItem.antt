-- Field names and methods as the items of a list.
use Rattle.std.specs.Prelude.{◌≡◌, ℕ, ◌<◌, Bool, ◌&&◌, List, [], ◌∷◌, map, length, nat_lt, nat_le, Option, Some, None}
use Rattle.std.{specs.Prelude.{is_some, Result, Ok, Err, if◌then◌else◌}, specs.List.{list_all, filter_map, take_while}}
use Rattle.std.{specs.Iterator.Drains, specs.declared.alloc.AllocError.AllocError}
use Rattle.http_header.{specs.Token.{IsToken, is_token_byte, lowercase}, specs.StandardHeader.IsStandardName}
use Rattle.headers_items.{specs.Merge.merge, specs.Places.{comma, items}}

-- a token (RFC 9110, section 5.6.2)
abbrev pub is_token : List ℕ → Bool
is_token item = nat_lt 0 (length item) && list_all is_token_byte item

-- the field name that an item is, in lower case (RFC 9110, section 5.1)
unfoldable pub name_of : List ℕ → Option (List ℕ)
name_of item = if is_token item && nat_le (length item) 65535 then Some (lowercase item) else None

-- the method that an item is (RFC 9110, section 9.1)
unfoldable pub method_of : List ℕ → Option (List ℕ)
method_of item = if is_token item then Some item else None

-- what an item parses as: as nothing, or as the value with these bytes
abbrev pub Reading : Type 0
Reading = List ℕ → Option (List ℕ)

-- the values of the items that parse as one, in order
abbrev pub values : Reading → List (List ℕ) → List (List ℕ)
values value_of items = filter_map value_of items

-- the values of the items before the first item that parses as none
abbrev pub leading_values : Reading → List (List ℕ) → List (List ℕ)
leading_values value_of items = values value_of (take_while (λ item. is_some (value_of item)) items)

-- the field names before the first item that isn't one
abbrev pub names : List (List ℕ) → List (List ℕ)
names items = leading_values name_of items

-- values for which memory may be allocated: a field name that isn't a standard one; a method of more than 15 bytes
abbrev pub NameWants : List ℕ → Type 0
NameWants name = ¬ (IsStandardName name)

abbrev pub MethodWants : List ℕ → Type 0
MethodWants method = 15 < length method

-- an item is a value for which memory may be allocated
abbrev pub ItemWants : Reading → (List ℕ → Type 0) → List ℕ → Type 0
ItemWants value_of Wants item = (value : List ℕ) × (value_of item ≡ Some value) × Wants value

-- The item was parsed: its value, or nothing if it has none; or an allocation for its value failed.
abbrev pub ReadsItem : {T : Type 0} → (T → List ℕ) → Reading → (List ℕ → Type 0) → List ℕ
    → Option (Result T AllocError) → Type 0
ReadsItem bytes_of value_of Wants item None = value_of item ≡ None
ReadsItem bytes_of value_of Wants item (Some (Ok value)) = value_of item ≡ Some (bytes_of value)
ReadsItem bytes_of value_of Wants item (Some (Err e)) = ItemWants value_of Wants item

-- bytes that are a token and parse as themselves
abbrev pub ReadsAsItself : Reading → List ℕ → Type 0
ReadsAsItself value_of bytes = IsToken bytes × (value_of bytes ≡ Some bytes)

-- memory may be allocated for the first value that is left
abbrev pub NextWants : (List ℕ → Type 0) → List (List ℕ) → Type 0
NextWants Wants left = (value : List ℕ) × (rest : List (List ℕ)) × (left ≡ value ∷ rest) × Wants value

module _ {T : Type 0} (bytes_of : T → List ℕ) (Wants : List ℕ → Type 0) where
  -- A call of an iterator yielded the first value that was left; or an allocation for that value failed, and the
  -- iterator has ended; or none was left.
  abbrev pub GivesNext : List (List ℕ) → Option (Result T AllocError) → List (List ℕ) → Type 0
  GivesNext before None after = (before ≡ []) × (after ≡ [])
  GivesNext before (Some (Ok value)) after = before ≡ bytes_of value ∷ after
  GivesNext before (Some (Err e)) after = NextWants Wants before × (after ≡ [])

-- a list is these values, joined by a comma and a space, and its items parse as them
pub record IsListOf (value_of : Reading) (given : List (List ℕ)) (value : List ℕ) : Type 0 where
  pub bytes : value ≡ merge comma given
  pub all : values value_of (items comma value) ≡ given
  pub leading : leading_values value_of (items comma value) ≡ given

-- the iterator yielded values from state s until it ended, and this is their list
abbrev pub ListsValues : {S T : Type 0} → (T → List ℕ) → Reading → (S → Option T → S → Type 0) → S → List ℕ → Type 0
ListsValues {S} {T} bytes_of value_of steps s value =
    (given : List T) × Drains steps s given × IsListOf value_of (map bytes_of given) value

-- the same for an iterator over field names or methods, of which a contract sees the bytes
abbrev pub Lists : {S : Type 0} → Reading → (S → Option (List ℕ) → S → Type 0) → S → List ℕ → Type 0
Lists value_of steps s value = (given : List (List ℕ)) × Drains steps s given × IsListOf value_of given value
