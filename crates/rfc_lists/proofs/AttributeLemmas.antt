-- The last of some attributes, one at a time.
use Rattle.std.proofs.Common.{◌≡◌, ◌∙◌, ℕ, List, Option, Some, None, ap, option_map, refl, sym}
use Rattle.{std.specs.Option.option_or, rfc_fields.specs.{Cuts.cut, Grammar.semicolon}}
use Rattle.rfc_lists.specs.{Attributes.{last_in, last_of, value_of}, declared.attributes.Known.Known}
use Rattle.rfc_lists.proofs.SplitLemmas.{is_at, last_piece, next_piece}
use denote.Ref.{Bor}

or-or : (a b d : Option (List ℕ)) → option_or (option_or a b) d ≡ option_or a (option_or b d)
or-or None b d = refl
or-or (Some x) b d = refl

abbrev pub shown : Option (Bor (List ℕ)) → Option (List ℕ)
shown value = option_map (λ (v : Bor (List ℕ)). v.now) value

shown-or : (a b : Option (Bor (List ℕ))) → shown (option_or a b) ≡ option_or (shown a) (shown b)
shown-or None b = refl
shown-or (Some x) b = refl

module _ (known : Known) (text : List ℕ) (all : Option (List ℕ)) (last new r : Option (Bor (List ℕ)))
    (is : r ≡ option_or new last) (a : all ≡ option_or (last_of known text) (shown last)) where
  pub next_value : (first others : List ℕ) → cut semicolon text ≡ Some (first, others)
      → shown new ≡ value_of known first → all ≡ option_or (last_of known others) (shown r)
  unfolding last_in
  next_value first others e n =
      a ∙ ap (λ texts. option_or (last_in known texts) (shown last)) (next_piece (is_at semicolon) text first others e)
      ∙ or-or (last_of known others) (value_of known first) (shown last)
      ∙ ap (λ v. option_or (last_of known others) (option_or v (shown last))) (sym n)
      ∙ ap (option_or (last_of known others)) (sym (shown-or new last))
      ∙ ap (λ v. option_or (last_of known others) (shown v)) (sym is)

  pub last_value : cut semicolon text ≡ None → shown new ≡ value_of known text → shown r ≡ all
  unfolding last_in
  last_value e n = ap shown is ∙ shown-or new last ∙ ap (λ v. option_or v (shown last)) n
      ∙ sym (a ∙ ap (λ texts. option_or (last_in known texts) (shown last)) (last_piece (is_at semicolon) text e))
