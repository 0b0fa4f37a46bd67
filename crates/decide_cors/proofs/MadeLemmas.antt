-- An answer is made of each list of fields that fits a `Vec`.
use Rattle.std.proofs.Common.{◌≡◌, ℕ, suc, ◌+◌, ◌<◌, ◌≤◌, ◌^◌, Bool, true, false, List, [], ◌∷◌, ◌++◌, length, map}
use Rattle.std.proofs.{Common.{Option, Some, None, refl, ap, arith, length-append}, lemmas.List.length-map}
use Rattle.std.specs.{Global.Vec, Prelude.{◌&&◌, codes, if◌then◌else◌, is_some, not, ⊤}}
use Rattle.{http_header.specs.FieldValue.plain_value, headers.specs.{LineMap.{Field, LineMap, fields_of}, Lines.Line}}
use Rattle.{headers.specs.{Lines.lines_of, declared.Encoded.Encoded}, decide_cors.specs.Answer.{IsAnswer, allows}}
use Rattle.decide_cors.specs.Fields.{covers_origin, fields_sent, filled_line, grant_fields, granted, lines_if}
use Rattle.decide_cors.specs.{Kinds.is_preflight, Policy.Policy, declared.policy.CorsAnswer.CorsAnswer}
use Rattle.decide_cors.proofs.SameLemmas.{some_kind}
use denote.RawPtr.{null_ptr}

abbrev pub vec : {X : Type 0} (items : List X) → length items < 2 ^ 63 → Vec X
vec items fits = record {
  ptr = null_ptr;
  len = length items;
  cap = length items;
  alloc = record { memory = record { seal = tt } };
  items = items;
  ok = (refl, omega arith);
  small = fits;
}

-- ---- fields that fit

abbrev AreShort : List Field → Type 0
AreShort [] = ⊤
AreShort (field ∷ fields) = (length field.1 < 2 ^ 63) × AreShort fields

-- at most so many fields, each with fewer lines than a `Vec` may have
pub record Fit (most : ℕ) (fields : List Field) : Type 0 where
  few : length fields ≤ most
  short : AreShort fields

pub fit-none : (most : ℕ) → Fit most []
fit-none most = record { few = omega arith; short = tt }

pub fit-more : {most : ℕ} (field : Field) {fields : List Field} → length field.1 < 2 ^ 63 → Fit most fields
    → Fit (suc most) (field ∷ fields)
fit-more field small rest = record { few = omega (arith, rest.few); short = (small, rest.short) }

pub fit-weaker : {m n : ℕ} {fields : List Field} → m ≤ n → Fit m fields → Fit n fields
fit-weaker more fits = record { few = omega (arith, fits.few, more); short = fits.short }

short-append : (xs ys : List Field) → AreShort xs → AreShort ys → AreShort (xs ++ ys)
short-append [] ys s t = t
short-append (x ∷ xs) ys s t = (s.0, short-append xs ys s.1 t)

pub fit-append : {m n : ℕ} {xs ys : List Field} → Fit m xs → Fit n ys → Fit (m + n) (xs ++ ys)
fit-append {m} {n} {xs} {ys} s t = record {
  few = omega (arith, s.few, t.few, length-append xs ys);
  short = short-append xs ys s.short t.short;
}

-- ---- an answer's fields

values_read : (lines : List Line) → lines_of (map plain_value lines) ≡ lines
values_read [] = refl
values_read (line ∷ lines) = ap (λ (ls : List Line). line ∷ ls) (values_read lines)

abbrev encoded : (field : Field) → length field.1 < 2 ^ 63 → Encoded
encoded field fits = record {
  name = field.0;
  lines = vec (map plain_value field.1) (omega (arith, fits, length-map field.1 plain_value));
}

items_of : (fields : List Field) → AreShort fields
    → (items : List Encoded) × (length items ≡ length fields) × (fields_of items ≡ fields)
items_of [] short = ([], refl, refl)
items_of (field ∷ fields) short =
    let rest = items_of fields short.1 in
    (encoded field short.0 ∷ rest.0, ap suc rest.1, rw (values_read field.1, rest.2) refl)

pub made : {most : ℕ} (fields : List Field) → Fit most fields → most < 2 ^ 63
    → (items : Vec Encoded) × (fields_of items.items ≡ fields)
made fields fits small =
    let items = items_of fields fits.short in (vec items.0 (omega (arith, items.1, fits.few, small)), items.2)

-- ---- the answer of a policy

few_lines : (condition : Bool) (line : Option Line) → length (lines_if condition line) < 2 ^ 63
few_lines condition None = omega arith
few_lines true (Some line) = omega arith
few_lines false (Some line) = omega arith

grant_fits : (policy : Policy) (pre : Bool) (line : Option Line) → Fit 6 (grant_fields policy pre line)
grant_fits policy pre line =
    let grants = is_some line in
    fit-more _ (few_lines grants line) (fit-more _ (few_lines (grants && policy.credentials) (Some (codes "true")))
    (fit-more _ (few_lines (grants && not pre) (filled_line policy.exposed))
    (fit-more _ (few_lines (grants && pre) (Some policy.methods))
    (fit-more _ (few_lines (grants && pre) (filled_line policy.names))
    (fit-more _ (few_lines (grants && pre) policy.max_age) (fit-none 0))))))

vary_fits : (lines : List Line) → length lines + 1 < 2 ^ 63 → (lists covers : Bool) → Fit 1
    (if lists then (if covers then [] else (codes "vary", lines ++ codes "origin" ∷ []) ∷ []) else [])
vary_fits lines few false covers = fit-none 1
vary_fits lines few true true = fit-none 1
vary_fits lines few true false = fit-more _ (omega (arith, few, length-append lines (codes "origin" ∷ []))) (fit-none 0)

pub policy_fits : (policy : Policy) (pre : Bool) (sent lines : List Line) → length lines + 1 < 2 ^ 63
    → Fit 7 (fields_sent policy pre sent lines)
policy_fits policy pre sent lines few = fit-append (grant_fits policy pre (granted policy sent))
    (vary_fits lines few (is_some policy.origins) (covers_origin lines))

pub some_answer : (policy : Policy) (method : List ℕ) (sent response : LineMap)
    → length (response (codes "vary")) + 1 < 2 ^ 63
    → (answer : CorsAnswer) × IsAnswer policy method sent response answer
some_answer policy method sent response few =
    let kind = some_kind method sent in
    let fits = policy_fits policy (is_preflight kind.0) (sent (codes "origin")) (response (codes "vary")) few in
    let fields = made _ fits (omega arith) in (
      record { kind = kind.0; is_allowed = allows kind.0 (granted policy (sent (codes "origin"))); fields = fields.0 },
      record { kind = kind.1; allowed = refl; fields = fields.1 },
    )
