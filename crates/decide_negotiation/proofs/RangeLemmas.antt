-- No weight is above 1.
use Rattle.std.proofs.Common.{◌≡◌, ℕ, ◌-◌, ◌≤◌, ◌*◌, ◌^◌, Bool, true, false, List, [], ◌∷◌, length, Option, Some, None}
use Rattle.std.proofs.{Common.{arith, codes}, lemmas.Bool.{and_parts, cases_Bool, eqb-false, leb-true}}
use Rattle.std.specs.Prelude.{IfSome, filter_map, fold, nat_le, option_and_then, ◌==◌, if◌then◌else◌}
use Rattle.{std.specs.{Char.is_ascii_digit, Str.all_ascii_digits}, headers_syntax.specs.Number.decimal_value}
use Rattle.rfc_fields.specs.{Members.members, Scan.{Member, Member.{Whole, Malformed}}, Values.ValueParts}
use Rattle.rfc_fields.specs.{Values.ValueParts.{TokenText, QuotedText}, Weights.{fraction, one, thousandths, weight}}
use Rattle.decide_negotiation.specs.Codings.{coding_quality, coding_says, encoding_quality, member_quality}
use Rattle.decide_negotiation.specs.{Codings.{quality_of_all, says_of, unlisted, is_same_coding}, Elements.ElementParts}
use Rattle.decide_negotiation.specs.Elements.{bare_element_of, element_in, excluding_nothing, weight_in, weight_of}
use Rattle.decide_negotiation.specs.{Elements.weight_or_least, Laws.{IsInRange, WeightsAreInRange}, Languages.covers}
use Rattle.decide_negotiation.specs.Languages.{language_element_of, language_says, says_of as language_says_of}
use Rattle.decide_negotiation.specs.MediaRanges.{MediaRangeParts, if_range, is_range, is_star, matches, media_range_in}
use Rattle.decide_negotiation.specs.MediaRanges.{media_type_in, media_type_says, names_in, says_in}
use Rattle.decide_negotiation.specs.{MediaRanges.says_of as media_says_of, Parameters.ParameterParts}
use Rattle.decide_negotiation.specs.{Preferences.{is_below, stronger, strongest}, Qualities.{least, preferred, rank}}
use Rattle.decide_negotiation.specs.{Qualities.weighed, declared.acceptability.Quality.Quality}
use Rattle.decide_negotiation.specs.declared.preference.Preference.{Preference}

one_of : {A : Type 0} (P : A → Type 0) (test : Bool) (x y : A) → P x → P y → P (if test then x else y)
one_of P true x y h k = h
one_of P false x y h k = k

module _ {A : Type 0} (P : A → Type 0) where
  either : (test : Bool) (x y : Option A) → IfSome x P → IfSome y P → IfSome (if test then x else y) P
  either = one_of (λ o. IfSome o P)

  then_some : {B : Type 0} (f : B → Option A) (Q : B → Type 0) (o : Option B) → IfSome o Q
      → ((x : B) → Q x → IfSome (f x) P) → IfSome (option_and_then f o) P
  then_some f Q None k h = tt
  then_some f Q (Some x) k h = h x k

  then_any : {B : Type 0} (f : B → Option A) (o : Option B) → ((x : B) → IfSome (f x) P)
      → IfSome (option_and_then f o) P
  then_any f None h = tt
  then_any f (Some x) h = h x

abbrev UpTo : ℕ → ℕ → Type 0
UpTo most n = n ≤ most

-- ---- weights

digit : (b : ℕ) → is_ascii_digit b ≡ true → b - 48 ≤ 9
digit b h = let high : b ≤ 57 = leb-true b 57 (and_parts _ _ h).1 in omega (arith, high)

digits_range : (digits : List ℕ) → all_ascii_digits digits ≡ true → length digits ≤ 3
    → decimal_value digits * 10 ^ (3 - length digits) ≤ 999
digits_range [] h low = omega arith
digits_range (a ∷ []) h low = grind (arith, and_parts, is_ascii_digit, digit)
digits_range (a ∷ b ∷ []) h low = grind (arith, and_parts, is_ascii_digit, all_ascii_digits, digit)
digits_range (a ∷ b ∷ c ∷ []) h low = grind (arith, and_parts, is_ascii_digit, all_ascii_digits, digit)
digits_range (a ∷ b ∷ c ∷ d ∷ digits) h low = absurd (omega (arith, low))

thousandths_range : (digits : List ℕ) → IfSome (thousandths digits) (UpTo 999)
thousandths_range digits = grind (arith, cases_Bool, and_parts, leb-true, digits_range)

fraction_range : (text : List ℕ) → IfSome (fraction text) (UpTo 999)
fraction_range [] = omega arith
fraction_range (b ∷ digits) = grind (arith, either, thousandths_range)

up_to_999 : (o : Option ℕ) → IfSome o (UpTo 999) → IfSome o (UpTo 1000)
up_to_999 None h = tt
up_to_999 (Some n) h = omega (arith, h)

one_range : (o : Option ℕ) → IfSome (one o) (UpTo 1000)
one_range None = tt
one_range (Some n) = either (UpTo 1000) (n == 0) (Some 1000) None (omega arith) tt

weight_range : (text : List ℕ) → IfSome (weight text) (UpTo 1000)
weight_range [] = tt
weight_range (b ∷ text) = grind (arith, either, up_to_999, fraction_range, one_range)

value_range : (v : ValueParts) → IfSome (weight_of v) (UpTo 1000)
value_range (TokenText text) = weight_range text
value_range (QuotedText text) = tt

counted_range : (o : Option ℕ) → IfSome o (UpTo 1000) → weight_or_least o ≤ 1000
counted_range None h = omega arith
counted_range (Some n) h = h

weight_in_range : (parameters : List ParameterParts) → weight_in parameters ≤ 1000
weight_in_range parameters = grind (arith, counted_range, value_range)

-- ---- elements

abbrev IsUpTo1 : ElementParts → Type 0
IsUpTo1 e = e.weight ≤ 1000

excluding_nothing_range : (e : ElementParts) → IfSome (excluding_nothing e) IsUpTo1
excluding_nothing_range e = either IsUpTo1 (e.weight == 0) None _ tt (omega arith)

element_range : (text : List ℕ) → IfSome (element_in text) IsUpTo1
unfolding element_in
element_range text = grind (arith, either, weight_in_range, excluding_nothing_range)

bare_range : (member : Member) → IfSome (bare_element_of member) IsUpTo1
bare_range Malformed = tt
bare_range (Whole text) = grind (arith, then_some, element_range, either, excluding_nothing_range)

language_element_range : (member : Member) → IfSome (language_element_of member) IsUpTo1
language_element_range Malformed = bare_range (Whole (codes "*;q=0.001"))
language_element_range (Whole text) = bare_range (Whole text)

-- ---- what is said

abbrev IsLow : Preference → Type 0
IsLow p = p.quality ≤ 1000

coding_range : (coding : List ℕ) (member : Member) → IfSome (coding_says coding member) IsLow
coding_range coding member = then_some IsLow (says_of coding) IsUpTo1 (bare_element_of member) (bare_range member)
    (λ e low. either IsLow (is_star e.range) _ _ low (either IsLow (is_same_coding e.range coding) _ None low tt))

language_range : (tag : List ℕ) (member : Member) → IfSome (language_says tag member) IsLow
language_range tag member =
    then_some IsLow (language_says_of tag) IsUpTo1 (language_element_of member) (language_element_range member)
    (λ e low. either IsLow (is_star e.range) _ _ low (either IsLow (covers e.range tag) _ None low tt))

abbrev IsLowRange : MediaRangeParts → Type 0
IsLowRange r = r.weight ≤ 1000

media_range_range : (text : List ℕ) → IfSome (media_range_in text) IsLowRange
unfolding media_range_in
media_range_range text = then_some IsLowRange (λ e. option_and_then (if_range e) (names_in e.range)) IsUpTo1
    (element_in text) (element_range _) (λ e low. then_any IsLowRange (if_range e) (names_in e.range)
    (λ n. either IsLowRange (is_range n) _ None low tt))

says_range : (offer text : List ℕ) → IfSome (says_in offer text) IsLow
says_range offer text = then_some IsLow (λ r. option_and_then (media_says_of r) (media_type_in offer)) IsLowRange
    (media_range_in text) (media_range_range _) (λ r low. then_any IsLow (media_says_of r) (media_type_in offer)
    (λ t. either IsLow (matches r t) _ None low tt))

media_range : (offer : List ℕ) (member : Member) → IfSome (media_type_says offer member) IsLow
media_range offer Malformed = says_range offer (codes "*/*;q=0.001")
media_range offer (Whole text) = says_range offer text

-- ---- qualities

module _ (says : Member → Option Preference) (range : (member : Member) → IfSome (says member) IsLow) where
  stronger_range : (best : Option Preference) (said : Preference) → IfSome best IsLow → IsLow said
      → IfSome (stronger best said) IsLow
  unfolding stronger
  stronger_range None said h k = k
  stronger_range (Some best) said h k = one_of IsLow (is_below best said) said best k h

  fold_range : (best : Option Preference) (field : List Member) → IfSome best IsLow
      → IfSome (fold stronger best (filter_map says field)) IsLow
  fold_range best [] h = h
  fold_range best (member ∷ field) h =
      grind (arith, range member, λ (b : Option Preference). fold_range b field, stronger_range)

  strongest_range : (field : List Member) → IfSome (strongest says field) IsLow
  unfolding strongest
  strongest_range field = fold_range None field tt

weighed_range : (n : ℕ) → n ≤ 1000 → IsInRange (weighed n)
weighed_range n low = grind (arith, cases_Bool, eqb-false)

preferred_range : (said : Option Preference) → IfSome said IsLow → IsInRange (preferred said)
preferred_range None h = tt
preferred_range (Some p) h = weighed_range p.quality h

unlisted_range : (coding : List ℕ) → IsInRange (unlisted coding)
unlisted_range coding = one_of IsInRange _ Quality.Unlisted Quality.NotAcceptable tt tt

coding_quality_range : (field : List Member) (coding : List ℕ) → IsInRange (coding_quality field coding)
unfolding coding_quality
coding_quality_range field coding =
    grind (arith, strongest_range (coding_says coding) (coding_range coding) field, unlisted_range, weighed_range)

member_range : (field : List Member) (member : Member) → IsInRange (member_quality field member)
member_range field (Whole coding) = coding_quality_range field coding
member_range field Malformed = tt

least_range : (q r : Quality) → IsInRange q → IsInRange r → IsInRange (least q r)
least_range q r h k = one_of IsInRange (nat_le (rank q) (rank r)) q r h k

all_range : (field : List Member) (q : Quality) (codings : List Member) → IsInRange q
    → IsInRange (fold (λ q c. least q (member_quality field c)) q codings)
all_range field q [] h = h
all_range field q (coding ∷ codings) h =
    all_range field (least q (member_quality field coding)) codings (least_range q _ h (member_range _ _))

of_all_range : (field codings : List Member) → IsInRange (quality_of_all field codings)
of_all_range field [] = coding_quality_range field (codes "identity")
of_all_range field (coding ∷ codings) = grind (arith, all_range, member_range)

encoding_range : (field : List Member) (offer : List ℕ) → IsInRange (encoding_quality field offer)
unfolding encoding_quality
encoding_range field offer = of_all_range field (members true offer)

pub weights_in_range : WeightsAreInRange
weights_in_range = grind (arith, preferred_range, strongest_range, media_range, encoding_range, language_range)
