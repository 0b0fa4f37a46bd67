-- Values and field lines without white space at their ends.
use Rattle.std.proofs.Common.{◌≡◌, ℕ, zero, suc, ◌+◌, ◌-◌, ◌<◌, ◌≤◌, Bool, true, false, not, eqb, IsTrue, List, [], ◌∷◌}
use Rattle.std.proofs.Common.{◌++◌, length, take, drop, reverse, get_or, refl, sym, ap, ◌∙◌, arith, inl, inr, nat_lt}
use Rattle.std.proofs.{Common.if◌then◌else◌, Math.Bool.or_comm, lemmas.Bool.{and_from, and_parts, cases_Bool}}
use Rattle.std.proofs.lemmas.{Bool.{cond-false, cond-true, lt-ltb, ltb-false, ltb-true, not-true}, List.drop_all}
use Rattle.std.proofs.lemmas.List.{drop_more, get_or-reverse, length-reverse, map_push, reverse-append, take_all}
use Rattle.std.proofs.lemmas.List.{take_more, Elements.All-weaker, Folds.list_all-append, Sums.list_all-from_AllPass}
use Rattle.std.{proofs.lemmas.List.Sums.prefix_len_stops, specs.List.{list_all, prefix_len, suffix_len}}
use Rattle.httparse.specs.Grammar.{is_ows, is_token, is_token_byte, is_value_byte}
use Rattle.http_header.specs.{FieldName.IsHeaderName, FieldValue.IsFieldValue}
use Rattle.http_header.specs.Token.{is_token_byte as is_name_byte}
use Rattle.http1.{specs.Fields.Header, specs.Head.{is_field_value, starts_visible}}
use Rattle.headers.{specs.EntityTag.{IsTag, tag_text}, specs.Text.{is_blank, trim, trim_end, trim_start}}
use Rattle.server_service.specs.Response.{is_bare, is_bare_line, is_kept, is_line, trimmed_line, trimmed_lines}

-- ---- what is left has no white space at its ends

visible : (b : ℕ) (bs : List ℕ) → is_blank b ≡ false → starts_visible (b ∷ bs) ≡ true
visible b bs none = ap not (or_comm (eqb b 32) (eqb b 9) ∙ none)

start_visible : (s : List ℕ) → starts_visible (trim_start s) ≡ true
start_visible s =
    let k : ℕ = prefix_len is_blank s in
    elim (cases_Bool (nat_lt k (length s))) [
      | inl low ↦
          let inside : k < length s = ltb-true k (length s) low in
          ap starts_visible (drop_more s k 0 inside)
          ∙ visible (get_or s k 0) (drop (k + 1) s) (prefix_len_stops is_blank s 0 inside)
      | inr high ↦ ap starts_visible (drop_all k s (ltb-false k (length s) high))
    ]

end_visible : (t : List ℕ) → starts_visible (reverse (trim_end t)) ≡ true
end_visible t =
    let k : ℕ = suffix_len is_blank t in
    elim (cases_Bool (nat_lt k (length t))) [
      | inl low ↦
          let inside : k < length t = ltb-true k (length t) low in
          let m : ℕ = length t - 1 - k in
          let more : length t - k ≡ m + 1 = omega (arith, inside) in
          let below : m < length t = omega (arith, inside) in
          let back : k < length (reverse t) = omega (arith, inside, length-reverse t) in
          let last : ℕ = get_or t m 0 in
          let stops : is_blank last ≡ false =
          ap is_blank (sym (get_or-reverse t k 0 inside)) ∙ prefix_len_stops is_blank (reverse t) 0 back in
          ap (λ (n : ℕ). starts_visible (reverse (take n t))) more
          ∙ ap (λ (l : List ℕ). starts_visible (reverse l)) (take_more t m 0 below)
          ∙ ap starts_visible (reverse-append (take m t) (last ∷ []))
          ∙ visible last (reverse (take m t)) stops
      | inr high ↦
          let all : length t ≤ k = ltb-false k (length t) high in
          let none : length t - k ≡ 0 = omega (arith, all) in
          ap (λ (n : ℕ). starts_visible (reverse (take n t))) none
    ]

front_kept : (n : ℕ) (t : List ℕ) → starts_visible t ≡ true → starts_visible (take n t) ≡ true
front_kept zero [] v = refl
front_kept zero (b ∷ bs) v = refl
front_kept (suc n) [] v = refl
front_kept (suc n) (b ∷ bs) v = v

pub trim_bare : (s : List ℕ) → is_bare (trim s) ≡ true
trim_bare s =
    let t : List ℕ = trim_start s in
    let n : ℕ = length t - suffix_len is_blank t in
    and_from (starts_visible (take n t)) (starts_visible (reverse (take n t))) (front_kept n t (start_visible s))
    (end_visible t)

-- ---- what has none stays as it is

none_before : (s : List ℕ) → starts_visible s ≡ true → prefix_len is_blank s ≡ 0
none_before [] v = refl
none_before (b ∷ bs) v =
    cond-false (is_blank b) (1 + prefix_len is_blank bs) 0 (or_comm (eqb b 9) (eqb b 32) ∙ not-true (is_ows b) v)

pub trim_visible : (s : List ℕ) → starts_visible s ≡ true → starts_visible (reverse s) ≡ true → trim s ≡ s
trim_visible s front back =
    let first : prefix_len is_blank s ≡ 0 = none_before s front in
    let last : suffix_len is_blank s ≡ 0 = none_before (reverse s) back in
    ap (λ (k : ℕ). trim_end (drop k s)) first ∙ ap (λ (k : ℕ). take (length s - k) s) last
    ∙ take_all (length s - 0) s (omega arith)

pub trim_bare_text : (s : List ℕ) → is_bare s ≡ true → trim s ≡ s
trim_bare_text s bare =
    let ends = and_parts (starts_visible s) (starts_visible (reverse s)) bare in trim_visible s ends.0 ends.1

-- ---- the ends of texts

front_longer : (xs ys : List ℕ) → 0 < length xs → starts_visible xs ≡ true → starts_visible (xs ++ ys) ≡ true
front_longer [] ys some x = absurd (omega (arith, some))
front_longer (b ∷ xs) ys some x = x

-- there is a last byte, and it is no white space
abbrev pub ends_visible : List ℕ → Bool
ends_visible [] = false
ends_visible (b ∷ []) = not (is_ows b)
ends_visible (b ∷ c ∷ bs) = ends_visible (c ∷ bs)

ends_cons : (b : ℕ) (bs : List ℕ) → ends_visible bs ≡ true → ends_visible (b ∷ bs) ≡ true
ends_cons b [] e = absurd (cc e)
ends_cons b (c ∷ bs) e = e

pub ends_append : (xs ys : List ℕ) → ends_visible ys ≡ true → ends_visible (xs ++ ys) ≡ true
ends_append [] ys e = e
ends_append (x ∷ xs) ys e = ends_cons x (xs ++ ys) (ends_append xs ys e)

back_of : (s : List ℕ) → ends_visible s ≡ true → starts_visible (reverse s) ≡ true
back_of [] e = absurd (cc e)
back_of (b ∷ []) e = e
back_of (b ∷ c ∷ bs) e =
    let rest : List ℕ = reverse (c ∷ bs) in
    let some : 0 < length rest = omega (arith, length-reverse (c ∷ bs)) in
    ap starts_visible (reverse-append (b ∷ []) (c ∷ bs)) ∙ front_longer rest (b ∷ []) some (back_of (c ∷ bs) e)

pub bare_by : (s : List ℕ) → starts_visible s ≡ true → ends_visible s ≡ true → is_bare s ≡ true
bare_by s front end = and_from (starts_visible s) (starts_visible (reverse s)) front (back_of s end)

pub trim_ended : (s : List ℕ) → starts_visible s ≡ true → ends_visible s ≡ true → trim s ≡ s
trim_ended s front end = trim_visible s front (back_of s end)

-- ---- tags

quoted_ends : (opaque : List ℕ) → ends_visible (34 ∷ (opaque ++ 34 ∷ [])) ≡ true
quoted_ends opaque = ends_append (34 ∷ opaque) (34 ∷ []) refl

pub tag_text_bare : (weak : Bool) (opaque : List ℕ)
    → is_bare (tag_text (record { is_weak = weak; opaque = opaque })) ≡ true
tag_text_bare true opaque = bare_by (87 ∷ 47 ∷ 34 ∷ (opaque ++ 34 ∷ [])) refl
    (ends_append (87 ∷ 47 ∷ []) (34 ∷ (opaque ++ 34 ∷ [])) (quoted_ends opaque))
tag_text_bare false opaque = bare_by (34 ∷ (opaque ++ 34 ∷ [])) refl (quoted_ends opaque)

pub tag_bare : (bytes opaque : List ℕ) (weak : Bool) → IsTag bytes (record { is_weak = weak; opaque = opaque })
    → is_bare bytes ≡ true
tag_bare bytes opaque weak tag = ap is_bare tag.text ∙ tag_text_bare weak opaque

-- ---- lines

same_byte : (b : ℕ) → is_name_byte b ≡ is_token_byte b
unfolding is_name_byte is_token_byte
same_byte b = refl

-- what the types of a name and a value say
pub line_valid : (name value : List ℕ) → IsHeaderName name → IsFieldValue value → is_line (name, value) ≡ true
line_valid name value named valid =
    let token = named.0.0 in
    let bytes = All-weaker (λ (b : ℕ). IsTrue (is_name_byte b)) (λ (b : ℕ). IsTrue (is_token_byte b))
    (λ b is. sym (same_byte b) ∙ is) name token.1 in
    and_from (is_token name) (is_field_value value)
    (and_from (nat_lt 0 (length name)) (list_all is_token_byte name) (lt-ltb 0 (length name) token.0)
    (list_all-from_AllPass is_token_byte name bytes)) (list_all-from_AllPass is_value_byte value valid)

-- whatever its name is
line_same : (kept : Bool) (line : Header) → trim line.1 ≡ line.1 → (if kept then line else (line.0, trim line.1)) ≡ line
line_same true line same = refl
line_same false line same = ap (λ (text : List ℕ). (line.0, text)) same

-- lines whose values have no white space at their ends are sent as they are
pub lines_same : (lines : List Header) → list_all is_bare_line lines ≡ true → lines ≡ trimmed_lines lines
lines_same [] bare = refl
lines_same (line ∷ lines) bare =
    let all = and_parts (is_bare_line line) (list_all is_bare_line lines) bare in
    let first = and_parts (is_line line) (is_bare line.1) all.0 in
    ap (λ (l : Header). l ∷ lines) (sym (line_same (is_kept line.0) line (trim_bare_text line.1 first.1)))
    ∙ ap (λ (l : List Header). trimmed_line line ∷ l) (lines_same lines all.1)

pub lines_valid : (lines : List Header) → list_all is_bare_line lines ≡ true → list_all is_line lines ≡ true
lines_valid [] bare = refl
lines_valid (line ∷ lines) bare =
    let all = and_parts (is_bare_line line) (list_all is_bare_line lines) bare in
    let first = and_parts (is_line line) (is_bare line.1) all.0 in
    and_from (is_line line) (list_all is_line lines) first.0 (lines_valid lines all.1)
