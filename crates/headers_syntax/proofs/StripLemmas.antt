-- What `trim_start_matches` and `trim_end_matches` leave of a text, where the characters that go are ASCII.
use Rattle.{headers_syntax.specs.Text.{is_blank, is_quote}, std.proofs.Common.{Bool, IfSome, List, None, Option, Some}}
use Rattle.std.proofs.Common.{[], ap, arith, drop, false, get_or, inl, inr, length, length-append, refl, suc, sym, take}
use Rattle.std.proofs.{Common.{take-append-drop, true, ℕ, ◌++◌, ◌+◌, ◌-◌, ◌<◌, ◌∙◌, ◌∷◌, ◌≡◌}, lemmas.Bool.cases_Bool}
use Rattle.std.proofs.lemmas.{Bool.Decides.nat_tests, Grind.common_steps, List.{drop_all, length-drop, length-take}}
use Rattle.std.proofs.lemmas.List.{reverse-append, take-append-le, take_all, take_more, Sums.suffix_len_is}
use Rattle.std.{proofs.lemmas.Str.{encode_ascii, Pattern.drop_at_char}, specs.{Char.char_set_contains, List.prefix_len}}
use Rattle.std.specs.{List.suffix_len, Str.Pattern.{CutsPrefixes, CutsSuffixes, FindsPrefixBy, FindsSuffixBy}}
use Rattle.std.specs.Str.Pattern.{IsTrimEndMatches, IsTrimStartMatches}
use lib.Utf8.{low_scalar}

-- the test holds of ASCII alone
abbrev pub OnAscii : (ℕ → Bool) → Type 0
OnAscii test = (c : ℕ) → test c ≡ true → c < 128

-- s without what passes at its front, and at its end
abbrev pub strip_front : (ℕ → Bool) → List ℕ → List ℕ
strip_front test s = drop (prefix_len test s) s

abbrev pub strip_end : (ℕ → Bool) → List ℕ → List ℕ
strip_end test s = take (length s - suffix_len test s) s

front_step : (test : ℕ → Bool) (b : ℕ) (t : List ℕ) → test b ≡ true → strip_front test (b ∷ t) ≡ strip_front test t
front_step test b t h = let e : 1 + prefix_len test t ≡ suc (prefix_len test t) = omega arith in rw (h, e) refl

end_length : (test : ℕ → Bool) (t : List ℕ) (b : ℕ) → test b ≡ true
    → suffix_len test (t ++ b ∷ []) ≡ 1 + suffix_len test t
end_length test t b h = rw (reverse-append t (b ∷ []), h) refl

end_step : (test : ℕ → Bool) (t : List ℕ) (b : ℕ) → test b ≡ true → strip_end test (t ++ b ∷ []) ≡ strip_end test t
end_step test t b h = grind (arith, common_steps, length-append, end_length, take, take-append-le)

-- a character at the front of a text is its first byte, and one at the end its last
cut_first : (test : ℕ → Bool) → OnAscii test → (s : List ℕ) (n : ℕ) → FindsPrefixBy test s (Some n) → (b : ℕ)
    × (t : List ℕ) × (s ≡ b ∷ t) × (test b ≡ true) × (drop n s ≡ t)
cut_first test ascii s n h = let small = ascii h.0 h.1 in (h.0, drop n s, drop_at_char h.0 s 0 n h.2 small, h.1, refl)

cut_last : (test : ℕ → Bool) → OnAscii test → (s : List ℕ) (n : ℕ) → FindsSuffixBy test s (Some n) → (b : ℕ)
    × (t : List ℕ) × (s ≡ t ++ b ∷ []) × (test b ≡ true) × (take (length s - n) s ≡ t)
cut_last test ascii s n h = grind (arith, common_steps, drop_at_char, drop, drop_all, take, take-append-drop)

-- where no such character is left, nothing goes
passes_none : (test : ℕ → Bool) → OnAscii test → (b : ℕ) → (b < 128 → test b ≡ false) → test b ≡ false
passes_none test ascii b none = elim (cases_Bool (test b)) [ inl y ↦ none (ascii b y) | inr n ↦ n ]

none_first : (test : ℕ → Bool) → OnAscii test → (s : List ℕ) → FindsPrefixBy test s None → strip_front test s ≡ s
none_first test ascii [] h = refl
none_first test ascii (b ∷ t) h = let no = passes_none test ascii b
    (λ small. h b t (low_scalar b (omega arith)) (ap (λ r. r ++ t) (sym (encode_ascii b small)))) in rw no refl

pub strip_end-none : (test : ℕ → Bool) (s : List ℕ) → (0 < length s → test (get_or s (length s - 1) 0) ≡ false)
    → strip_end test s ≡ s
strip_end-none test s last = grind (arith, common_steps, suffix_len_is, take_all)

none_last : (test : ℕ → Bool) → OnAscii test → (s : List ℕ) → FindsSuffixBy test s None → strip_end test s ≡ s
none_last test ascii s h = let front = take (length s - 1) s in let b = get_or s (length s - 1) 0 in
    strip_end-none test s (λ some. let n : (length s - 1) + 1 ≡ length s = omega arith in let split : s ≡ front ++ b
    ∷ [] = grind (arith, common_steps, take_all, take, take_more) in passes_none test ascii b
    (λ small. h b front (low_scalar b (omega arith)) (split ∙ ap (λ r. front ++ r) (sym (encode_ascii b small)))))

module _ (test : ℕ → Bool) (ascii : OnAscii test) (R : List ℕ → Option ℕ → Type 0) where
  front_kept : ((s : List ℕ) (o : Option ℕ) → R s o → FindsPrefixBy test s o)
      → (s : List ℕ) (ns : List ℕ) (r : List ℕ) → CutsPrefixes R s ns r → strip_front test s ≡ strip_front test r
  front_kept by s [] r e = ap (strip_front test) (sym e)
  front_kept by s (n ∷ ns) r h = grind (arith, common_steps, cut_first, front_step, front_kept by s ns h.0 h.1)

  end_kept : ((s : List ℕ) (o : Option ℕ) → R s o → FindsSuffixBy test s o) → (s : List ℕ) (ns : List ℕ) (r : List ℕ)
      → CutsSuffixes R s ns r → strip_end test s ≡ strip_end test r
  end_kept by s [] r e = ap (strip_end test) (sym e)
  end_kept by s (n ∷ ns) r h =
      grind (arith, cut_last test ascii h.0 n (by h.0 (Some n) h.2), end_step, end_kept by s ns h.0 h.1)

  trim_start_is : ((s : List ℕ) (o : Option ℕ) → R s o → FindsPrefixBy test s o) → (s r : List ℕ)
      → IsTrimStartMatches R s r → r ≡ strip_front test s
  trim_start_is by s r h = grind (arith, front_kept by s h.0.0 r h.0.1, none_first, cut_first, length-drop)

  trim_end_is : ((s : List ℕ) (o : Option ℕ) → R s o → FindsSuffixBy test s o) → (s r : List ℕ)
      → IsTrimEndMatches R s r → r ≡ strip_end test s
  trim_end_is by s r h = grind (arith, end_kept by s h.0.0 r h.0.1, none_last, cut_last, length-take, length-append)

-- quotes, spaces and tabs are ASCII, and are these lists of characters
pub quote_ascii : OnAscii is_quote
quote_ascii c h = grind (arith, nat_tests)

pub blank_ascii : OnAscii is_blank
blank_ascii c h = grind (arith, nat_tests)

pub is_quote_set : (c : ℕ) → char_set_contains (34 ∷ []) c ≡ is_quote c
is_quote_set c = grind (arith, nat_tests)

pub is_blank_set : (c : ℕ) → char_set_contains (9 ∷ 32 ∷ []) c ≡ is_blank c
is_blank_set c = grind (arith, nat_tests)

-- a list of characters as a pattern, at the front and at the end
abbrev pub FrontOfSet : List ℕ → List ℕ → Option ℕ → Type 0
FrontOfSet set s o = (k : ℕ → Bool) → ((c : ℕ) → char_set_contains set c ≡ k c) → FindsPrefixBy k s o

abbrev pub EndOfSet : List ℕ → List ℕ → Option ℕ → Type 0
EndOfSet set s o = (k : ℕ → Bool) → ((c : ℕ) → char_set_contains set c ≡ k c) → FindsSuffixBy k s o

pub strip_set : (test : ℕ → Bool) (set : List ℕ) → OnAscii test → ((c : ℕ) → char_set_contains set c ≡ test c)
    → (s m r : List ℕ) → IsTrimStartMatches (FrontOfSet set) s m → IsTrimEndMatches (EndOfSet set) m r
    → r ≡ strip_end test (strip_front test s)
strip_set test set ascii same s m r a b = trim_end_is test ascii (EndOfSet set) (λ s o h. h test same) m r b ∙ ap
    (strip_end test) (trim_start_is test ascii (FrontOfSet set) (λ s o h. h test same) s m a)
