-- What follows an item is shorter than the text.
use Rattle.rfc_values.{proofs.RepeatLemmas.{all-shorter, Keeps, Takes}, specs.Bytes.{after_run, begins_token, is_in}}
use Rattle.rfc_values.specs.{declared.bytes.Class.{Class, TheVariants.{Base64, Space, Token}}, Items.after_argument}
use Rattle.rfc_values.specs.Items.{after_colon, after_inner, after_item, after_key, after_parameter, after_parameters}
use Rattle.rfc_values.specs.Items.{after_string, bare_item, boolean, bounded, decimal, going, inner_by, inner_step}
use Rattle.rfc_values.specs.Items.{inside, integer, number, number_by, parameter_step, Reading, rest_of, Step.Ends}
use Rattle.{rfc_values.specs.Items.{Step.Goes, string, unsigned, ValueParts.Text}, std.proofs.Common.{[], arith, Bool}}
use Rattle.std.proofs.Common.{cond, false, length, List, None, Option, option_and_then, option_map, refl, rules, Some}
use Rattle.std.proofs.{Common.{subst, true, ℕ, ◌-◌, ◌<◌, ◌∷◌, ◌≡◌, ◌≤◌}, lemmas.{Bool.ltb-true, Option.none-some}}
use Rattle.std.{proofs.lemmas.Option.same_Some, specs.{Char.is_ascii_digit, Prelude.{nat_lt, ◌==◌, ◌||◌}}}

-- what there is has this many bytes at most
abbrev pub Within : ℕ → Option (List ℕ) → Type 0
Within n o = (r : List ℕ) → o ≡ Some r → length r ≤ n

abbrev pub ReadsWithin : ℕ → Option Reading → Type 0
ReadsWithin n o = (reading : Reading) → o ≡ Some reading → length reading.rest ≤ n

within-none : (n : ℕ) → Within n None
within-none n r e = absurd (none-some r e)

within-some : (n : ℕ) (s : List ℕ) → length s ≤ n → Within n (Some s)
within-some n s h r e = subst (λ t. length t ≤ n) (same_Some s r e) h

pub reads-none : (n : ℕ) → ReadsWithin n None
reads-none n r e = absurd (none-some r e)

pub reads-some : (n : ℕ) (reading : Reading) → length reading.rest ≤ n → ReadsWithin n (Some reading)
reads-some n reading h r e = subst (λ t. length t.rest ≤ n) (same_Some reading r e) h

within-cond : (n : ℕ) (b : Bool) (x y : Option (List ℕ)) → Within n x → Within n y → Within n (cond b x y)
within-cond n b x y p q = grind arith

pub reads-cond : (n : ℕ) (b : Bool) (x y : Option Reading) → ReadsWithin n x → ReadsWithin n y
    → ReadsWithin n (cond b x y)
reads-cond n b x y p q = grind arith

-- a step after another
within-then : (n : ℕ) (f : List ℕ → Option (List ℕ)) (o : Option (List ℕ)) → Within n o
    → ((s : List ℕ) → Within (length s) (f s)) → Within n (option_and_then f o)
within-then n f None p q r e = within-none n r e
within-then n f (Some s) p q r e = omega (arith, p s refl, q s r e)

within-reading : (n : ℕ) (f : Reading → Option (List ℕ)) (o : Option Reading) → ReadsWithin n o
    → ((reading : Reading) → Within (length reading.rest) (f reading)) → Within n (option_and_then f o)
within-reading n f None p q r e = within-none n r e
within-reading n f (Some s) p q r e = omega (arith, p s refl, q s r e)

within-rest : (n : ℕ) (o : Option Reading) → ReadsWithin n o → Within n (option_map rest_of o)
within-rest n o p = grind (arith, within-none, within-some)

run-by_class : (v : Bool) (class : Class) (b : ℕ) (s : List ℕ) → length (after_run class s) ≤ length s
    → length (cond v (after_run class s) (b ∷ s)) ≤ length (b ∷ s)
run-by_class v class b s h = grind arith

pub run-shorter : (class : Class) (s : List ℕ) → length (after_run class s) ≤ length s
unfolding after_run
run-shorter class [] = omega arith
run-shorter class (b ∷ s) = run-by_class (is_in class b) class b s (run-shorter class s)

pub key-shorter : (s r : List ℕ) → after_key s ≡ Some r → length r < length s
key-shorter s r e = grind (arith, none-some, within-cond, within-some, run-shorter, within-none)

unsigned-by_sign : (v : Bool) (b : ℕ) (s : List ℕ) → length (cond v s (b ∷ s)) ≤ length (b ∷ s)
unsigned-by_sign v b s = grind arith

unsigned-shorter : (s : List ℕ) → length (unsigned s) ≤ length s
unsigned-shorter s = grind (arith, unsigned-by_sign)

integer-within : (n : ℕ) (text : List ℕ) (digits : ℕ) (rest : List ℕ) → length rest ≤ n
    → ReadsWithin n (integer text digits rest)
integer-within n text digits rest h = grind (arith, reads-cond, reads-some, reads-none)

decimal-within : (n digits : ℕ) (s : List ℕ) → length s ≤ n → ReadsWithin n (decimal digits s)
decimal-within n digits s h = grind (arith, reads-cond, reads-some, run-shorter, reads-none)

number_by-within : (n : ℕ) (text : List ℕ) (digits : ℕ) (rest : List ℕ) → length rest ≤ n
    → ReadsWithin n (number_by text digits rest)
number_by-within n text digits rest h = grind (arith, integer-within, reads-cond, decimal-within)

number-by_digits : (b : ℕ) (s : List ℕ) (digits : ℕ) (start rest : List ℕ) → digits ≡ length start - length rest
    → length start ≤ length (b ∷ s) → (v : Bool) → nat_lt 0 digits ≡ v
    → ReadsWithin (length s) (cond v (number_by (b ∷ s) digits rest) None)
number-by_digits b s digits start rest d h v e = grind (arith, number_by-within, ltb-true, reads-none)

-- a number has a digit at least
number-within : (b : ℕ) (s : List ℕ) → ReadsWithin (length s) (number (b ∷ s))
number-within b s = grind (arith, number-by_digits, unsigned-shorter)

string-within : (n : ℕ) (s : List ℕ) (escaped : Bool) → length s ≤ n → Within n (after_string escaped s)
unfolding after_string
string-within n [] true h = within-none n
string-within n [] false h = within-none n
string-within n (b ∷ s) true h = grind (arith, within-cond, within-none, string-within n s false (omega (arith, h)))
string-within n (b ∷ s) false h =
    let smaller = λ (is_escaped : Bool). string-within n s is_escaped (omega (arith, h)) in
    grind (arith, within-cond, within-some, within-none, smaller true, smaller false)

text-within : (n : ℕ) (s : List ℕ) (o : Option (List ℕ)) → Within n o
    → ReadsWithin n (option_map (λ rest. record { value = Text (inside s rest); rest = rest }) o)
text-within n s o h = grind (arith, reads-none, reads-some)

boolean-within : (n : ℕ) (s : List ℕ) → length s ≤ n → ReadsWithin n (boolean s)
boolean-within n s h = grind (arith, reads-none, reads-cond, reads-some)

colon-within : (n : ℕ) (s : List ℕ) → length s ≤ n → ReadsWithin n (after_colon s)
colon-within n s h = grind (arith, reads-none, reads-cond, reads-some)

-- an item has a byte at least
pub item-within : (b : ℕ) (s : List ℕ) → ReadsWithin (length s) (bare_item (b ∷ s))
item-within b s =
    let n = length s in
    reads-cond n (b == 45 || is_ascii_digit b) (number (b ∷ s)) _ (number-within b s)
    (reads-cond n (b == 34) (string s) _
    (text-within n s (after_string false s) (string-within n s false (omega arith)))
    (reads-cond n (begins_token b) _ _ (reads-some n _ (run-shorter Token s))
    (reads-cond n (b == 58) _ _ (colon-within n (after_run Base64 s) (run-shorter Base64 s))
    (reads-cond n (b == 63) (boolean s) None (boolean-within n s (omega arith)) (reads-none n)))))

pub item-shorter : (s : List ℕ) → ReadsWithin (length s) (bare_item s)
item-shorter s reading e = grind (arith, reads-none, item-within)

-- ---- parameters

argument-within : (s : List ℕ) → Within (length s) (after_argument s)
argument-within s = grind (arith, within-some, within-cond, within-rest, item-shorter)

pub parameter-within : (s : List ℕ) → Within (length s) (after_parameter s)
parameter-within s = within-then (length s) after_argument (after_key (after_run Space s))
    (λ r e. omega (arith, key-shorter (after_run Space s) r e, run-shorter Space s)) argument-within

some_goes : (o : Option (List ℕ)) (r : List ℕ) → going o ≡ Goes r → o ≡ Some r
some_goes o r e = grind arith

never_ends : (o : Option (List ℕ)) (r : List ℕ) → going o ≡ Ends r → ⊥
never_ends o r e = grind arith

goes_ends : (s r : List ℕ) → Ends s ≡ Goes r → ⊥
goes_ends s r e = cc

ends_same : (s r : List ℕ) → Ends s ≡ Ends r → s ≡ r
ends_same s r e = cc

parameter_by-takes : (v : Bool) (s t r : List ℕ) → cond v (going (after_parameter s)) (Ends t) ≡ Goes r
    → length r ≤ length s
parameter_by-takes v s t r e = grind (arith, parameter-within, some_goes, goes_ends)

pub parameters-take : Takes parameter_step
parameters-take [] r e = absurd (goes_ends [] r e)
parameters-take (b ∷ s) r e = let h = parameter_by-takes (b == 59) s (b ∷ s) r e in omega (arith, h)

parameter_by-keeps : (v : Bool) (s t r : List ℕ) → cond v (going (after_parameter s)) (Ends t) ≡ Ends r → t ≡ r
parameter_by-keeps v s t r e = grind (arith, never_ends, ends_same)

parameters-keep : Keeps parameter_step
parameters-keep h r e = grind (arith, ends_same, parameter_by-keeps)

pub parameters-within : (s : List ℕ) → Within (length s) (after_parameters s)
parameters-within s r e = all-shorter parameter_step parameters-take parameters-keep s r e

-- ---- inner lists

item_and_parameters-within : (b : ℕ) (s : List ℕ) → Within (length s) (after_item (b ∷ s))
item_and_parameters-within b s = search (rules, within-reading, item-within, parameters-within)

bounded-within : (s : List ℕ) → Within (length s) (bounded s)
bounded-within s = grind (arith, within-none, within-cond, within-some)

inner_by-takes : (v : Bool) (b : ℕ) (s r : List ℕ)
    → cond v (Ends s) (going (option_and_then bounded (after_item (b ∷ s)))) ≡ Goes r → length r ≤ length s
inner_by-takes true b s r e = absurd (goes_ends s r e)
inner_by-takes false b s r e = within-then (length s) bounded (after_item (b ∷ s)) (item_and_parameters-within b s)
    bounded-within r (some_goes _ r e)

inner-takes : (s r : List ℕ) → inner_by s ≡ Goes r → length r < length s
inner-takes s r e = grind (arith, inner_by-takes)

pub inner_lists-take : Takes inner_step
inner_lists-take s r e = omega (arith, inner-takes (after_run Space s) r e, run-shorter Space s)

inner_by-keeps : (v : Bool) (b : ℕ) (s r : List ℕ)
    → cond v (Ends s) (going (option_and_then bounded (after_item (b ∷ s)))) ≡ Ends r → s ≡ r
inner_by-keeps v b s r e = grind (arith, ends_same, never_ends)

inner-keeps : (s r : List ℕ) → inner_by s ≡ Ends r → length r ≤ length s
inner-keeps s r e = grind (arith, inner_by-keeps)

inner_lists-keep : Keeps inner_step
inner_lists-keep s r e = omega (arith, inner-keeps (after_run Space s) r e, run-shorter Space s)

pub inner-within : (s : List ℕ) → Within (length s) (after_inner s)
inner-within s r e = all-shorter inner_step inner_lists-take inner_lists-keep s r e
