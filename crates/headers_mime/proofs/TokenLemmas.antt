-- Tokens, quoted strings and blanks at the head of a text.
use Rattle.std.proofs.Common.{Bool, IsTrue, List, Option, Some, [], ap, append_assoc, arith, eqb, false, inl, inr, not}
use Rattle.std.proofs.Common.{length, length-append, refl, suc, sym, take, true, ℕ, ◌&&◌, ◌++◌, ◌+◌, ◌∷◌, ◌≡◌, ◌≢◌, ◌⊎◌}
use Rattle.headers_mime.specs.MediaType.{IsBlanks, IsQuotedPart, IsQuotedString, QuotedPart, backslash, escaped, plain}
use Rattle.headers_mime.specs.{MediaType.quoted_part_text, MediaTypeReading.{begins_with, quoted_len, read_token}}
use Rattle.headers_mime.specs.MediaTypeReading.{read_value, split_at, token_len, value_len}
use Rattle.std.proofs.lemmas.{Bool.{and_from, and_right, cases_Bool, eq-eqb, eqb-false, eqb-true}, Grind.common_steps}
use Rattle.std.proofs.lemmas.List.{Folds.length-prefix_len, Sums.{AllPass-from_list_all, list_all-from_AllPass}}
use Rattle.std.proofs.lemmas.List.{Elements.{All-cons, All-head, All-nil, All-tail}, take-append-drop}
use Rattle.http_header.specs.Token.{IsToken, is_token_byte, is_visible_or_blank}
use Rattle.headers_syntax.{proofs.TextLemmas.{token_no_blank, token_no_quote}, specs.Text.{is_blank, quote, trim_start}}
use Rattle.std.{proofs.Math.Seq.{drop-append_seam, take-append_seam}, specs.List.{All, flat_map, list_all, prefix_len}}
use Rattle.{headers_syntax.proofs.OptionLemmas.map_parts, std.specs.Prelude.option_map}

module _ (p : ℕ → Bool) where
  -- what passes, before a byte that does not
  pub prefix_len-passing : (xs ys : List ℕ) → list_all p xs ≡ true → begins_with p ys ≡ false
      → prefix_len p (xs ++ ys) ≡ length xs
  prefix_len-passing [] [] a stop = refl
  prefix_len-passing [] (y ∷ ys) a stop = rw stop refl
  prefix_len-passing (x ∷ xs) ys a stop = grind (arith, prefix_len-passing xs ys)

  pub take_prefix-passes : (xs : List ℕ) → list_all p (take (prefix_len p xs) xs) ≡ true
  take_prefix-passes [] = refl
  take_prefix-passes (x ∷ xs) = elim (cases_Bool (p x)) [
    | inl t ↦ let e : 1 + prefix_len p xs ≡ suc (prefix_len p xs) = omega arith in
        rw (t, e) (and_from _ _ t (take_prefix-passes xs))
    | inr f ↦ rw f refl
  ]

-- blanks go
pub trim_start-append : (xs ys : List ℕ) → IsBlanks xs → trim_start (xs ++ ys) ≡ trim_start ys
trim_start-append [] ys blank = refl
trim_start-append (x ∷ xs) ys blank = let P : ℕ → Type 0 = λ b. IsTrue (is_blank b) in
    let e : 1 + prefix_len is_blank (xs ++ ys) ≡ suc (prefix_len is_blank (xs ++ ys)) = omega arith in
    rw (All-head P x xs blank, e) (trim_start-append xs ys (All-tail P x xs blank))

-- a text is its blanks and the rest
pub blanks-trim_start : (s : List ℕ) → (xs : List ℕ) × IsBlanks xs × (xs ++ trim_start s ≡ s)
blanks-trim_start s = (
  take (prefix_len is_blank s) s,
  AllPass-from_list_all is_blank _ (take_prefix-passes is_blank s),
  take-append-drop (prefix_len is_blank s) s,
)

-- a text cut where its first part ends
split_here : (xs ys : List ℕ) (n : Option ℕ) → n ≡ Some (length xs) → option_map (split_at (xs ++ ys)) n ≡ Some (xs, ys)
split_here xs ys n e = simp (e, take-append_seam, drop-append_seam)

-- a token is not empty, and its first byte is one of a token
pub token-head : (xs ys : List ℕ) → IsToken xs → begins_with is_token_byte (xs ++ ys) ≡ true
token-head [] ys token = absurd (omega (arith, token.0))
token-head (x ∷ xs) ys token = All-head (λ b. IsTrue (is_token_byte b)) x xs token.1

pub trim_start-token : (xs ys : List ℕ) → IsToken xs → trim_start (xs ++ ys) ≡ xs ++ ys
trim_start-token [] ys token = absurd (omega (arith, token.0))
trim_start-token (x ∷ xs) ys token = rw (token_no_blank x (All-head (λ b. IsTrue (is_token_byte b)) x xs token.1)) refl

-- the token at the head
pub token_len-token : (xs ys : List ℕ) → IsToken xs → begins_with is_token_byte ys ≡ false
    → token_len (xs ++ ys) ≡ Some (length xs)
token_len-token xs ys token stop = grind (arith, common_steps, prefix_len-passing, list_all-from_AllPass)

pub read_token-token : (xs ys : List ℕ) → IsToken xs → begins_with is_token_byte ys ≡ false
    → read_token (xs ++ ys) ≡ Some (xs, ys)
unfolding read_token
read_token-token xs ys token stop = split_here xs ys (token_len (xs ++ ys)) (token_len-token xs ys token stop)

-- and what is read is one
pub token-from_read : (s : List ℕ) (t : List ℕ × List ℕ) → read_token s ≡ Some t → IsToken t.0 × (s ≡ t.0 ++ t.1)
unfolding read_token
token-from_read s t h = let len = length-prefix_len is_token_byte s in
    grind (
      arith,
      take_prefix-passes is_token_byte s,
      take-append-drop (prefix_len is_token_byte s) s,
      AllPass-from_list_all is_token_byte,
    )

-- what stands between quotes, up to the closing one
quoted_len-parts : (parts : List QuotedPart) (ys : List ℕ) → All IsQuotedPart parts → quoted_len false
    (flat_map quoted_part_text parts ++ quote ∷ ys) ≡ Some (length (flat_map quoted_part_text parts) + 1)
quoted_len-parts [] ys valid = refl
quoted_len-parts (plain b ∷ parts) ys valid = let here = All-head IsQuotedPart (plain b) parts valid in
    let later = quoted_len-parts parts ys (All-tail IsQuotedPart (plain b) parts valid) in grind (arith, here, later)
quoted_len-parts (escaped b ∷ parts) ys valid = let here = All-head IsQuotedPart (escaped b) parts valid in
    let later = quoted_len-parts parts ys (All-tail IsQuotedPart (escaped b) parts valid) in grind (arith, here, later)

-- parts and a closing quote, of length n, stand at the head
record Quoted (s : List ℕ) (n : ℕ) : Type 0 where
  pub parts : List QuotedPart
  pub valid : All IsQuotedPart parts
  pub rest : List ℕ
  pub text : s ≡ flat_map quoted_part_text parts ++ quote ∷ rest
  pub len : n ≡ length (flat_map quoted_part_text parts) + 1

-- the same, where a backslash stands before if the head is escaped
abbrev QuotedFrom : Bool → List ℕ → ℕ → Type 0
QuotedFrom false s n = Quoted s n
QuotedFrom true s n = Quoted (backslash ∷ s) (1 + n)

-- one byte: the closing quote, or one more
abbrev QuotedStep : Bool → ℕ → List ℕ → ℕ → Type 0
QuotedStep is_escaped b s n = ((b ≡ quote) × (is_escaped ≡ false) × (1 ≡ n)) ⊎ ((eqb b quote && not is_escaped ≡ false)
    × (is_visible_or_blank b ≡ true) × (m : ℕ) × (quoted_len (eqb b backslash && not is_escaped) s ≡ Some m)
    × (1 + m ≡ n))

quoted_step : (is_escaped : Bool) (b : ℕ) (s : List ℕ) (n : ℕ) → quoted_len is_escaped (b ∷ s) ≡ Some n
    → QuotedStep is_escaped b s n
quoted_step is_escaped b s n h = grind (arith, map_parts)

-- one part more at the head
quoted_more : (part : QuotedPart) (s : List ℕ) (m n : ℕ) → IsQuotedPart part → length (quoted_part_text part) + m ≡ n
    → Quoted s m → Quoted (quoted_part_text part ++ s) n
quoted_more part s m n valid e inner = record {
  parts = part ∷ inner.parts;
  valid = All-cons IsQuotedPart part inner.parts valid inner.valid;
  rest = inner.rest;
  text = simp (inner.text, append_assoc);
  len = omega (arith, inner.len, length-append {A = ℕ});
}

quoted-from_len : (is_escaped : Bool) (s : List ℕ) (n : ℕ) → quoted_len is_escaped s ≡ Some n
    → QuotedFrom is_escaped s n
quoted-from_len is_escaped [] n h = absurd (cc h)
quoted-from_len false (b ∷ s) n h = elim (quoted_step false b s n h) [
  | inl end ↦ record {
    parts = [];
    valid = All-nil IsQuotedPart;
    rest = s;
    text = ap (λ (x : ℕ). x ∷ s) end.0;
    len = sym end.2;
  }
  | inr more ↦ elim (cases_Bool (eqb b backslash)) [
    | inl back ↦ let inner : quoted_len true s ≡ Some more.2 = rw back at more.3 in
        rw (eqb-true b backslash back, ← more.4) (quoted-from_len true s more.2 inner)
    | inr back ↦ let inner : quoted_len false s ≡ Some more.2 = rw back at more.3 in
        let no_quote : b ≢ quote = grind (arith, and_from, eq-eqb) in
        quoted_more (plain b) s more.2 n (more.1, no_quote, eqb-false b backslash back) more.4
        (quoted-from_len false s more.2 inner)
  ]
]
quoted-from_len true (b ∷ s) n h = elim (quoted_step true b s n h) [
  | inl end ↦ absurd (cc end.1)
  | inr more ↦ let inner : quoted_len false s ≡ Some more.2 = rw (and_right (eqb b backslash) false refl) at more.3 in
      quoted_more (escaped b) s more.2 (1 + n) more.1 (omega (arith, more.4)) (quoted-from_len false s more.2 inner)
]

-- a quoted string is not empty, and its first byte is a quote
quoted_string-head : (s : List ℕ) (ys : List ℕ) → IsQuotedString s → value_len (s ++ ys) ≡ Some (length s)
unfolding value_len
quoted_string-head s ys q = grind (arith, common_steps, quoted_len-parts, append_assoc, length-append)

token_value-len : (s : List ℕ) (ys : List ℕ) → IsToken s → begins_with is_token_byte ys ≡ false
    → value_len (s ++ ys) ≡ Some (length s)
unfolding value_len
token_value-len [] ys token stop = absurd (omega (arith, token.0))
token_value-len (x ∷ xs) ys token stop = rw (token_no_quote x (All-head (λ b. IsTrue (is_token_byte b)) x xs token.1))
    (token_len-token (x ∷ xs) ys token stop)

-- the value at the head
pub read_value-value : (xs ys : List ℕ) → IsToken xs ⊎ IsQuotedString xs → begins_with is_token_byte ys ≡ false
    → read_value (xs ++ ys) ≡ Some (xs, ys)
unfolding read_value
read_value-value xs ys (inl token) stop = split_here xs ys (value_len (xs ++ ys)) (token_value-len xs ys token stop)
read_value-value xs ys (inr q) stop = split_here xs ys (value_len (xs ++ ys)) (quoted_string-head xs ys q)

quoted_string-take : (b : ℕ) (s : List ℕ) (m n : ℕ) → b ≡ quote → 1 + m ≡ n → Quoted s m
    → IsQuotedString (take n (b ∷ s))
quoted_string-take b s m n q e inner =
    let flat = flat_map quoted_part_text inner.parts in let closed = flat ++ quote ∷ [] in
    let n' : n ≡ suc (length closed) = omega (arith, inner.len, length-append flat (quote ∷ [])) in
    grind (arith, take-append_seam closed inner.rest, append_assoc)

-- and what is read is one
pub value-from_read : (s : List ℕ) (t : List ℕ × List ℕ) → read_value s ≡ Some t
    → (IsToken t.0 ⊎ IsQuotedString t.0) × (s ≡ t.0 ++ t.1)
unfolding read_value value_len read_token
value-from_read [] t h = absurd (cc h)
value-from_read (b ∷ s) t h = elim (cases_Bool (eqb b quote)) [
  | inl q ↦
      let h' : option_map (split_at (b ∷ s)) (option_map (λ (n : ℕ). 1 + n) (quoted_len false s)) ≡ Some t = rw q at h
      in let n = map_parts (split_at (b ∷ s)) (option_map (λ (n : ℕ). 1 + n) (quoted_len false s)) t h' in
      let m = map_parts (λ (n : ℕ). 1 + n) (quoted_len false s) n.0 n.1 in
      rw (← n.2) (
        inr (quoted_string-take b s m.0 n.0 (eqb-true b quote q) m.2 (quoted-from_len false s m.0 m.1)),
        sym (take-append-drop n.0 (b ∷ s)),
      )
  | inr q ↦ let h' : read_token (b ∷ s) ≡ Some t = rw q at h in grind (arith, token-from_read (b ∷ s) t h')
]
