-- Pairs, one at a time, with their names behind references.
use Rattle.std.proofs.Common.{◌≡◌, ◌∙◌, ℕ, ◌<◌, true, false, cond, List, [], ◌∷◌, ◌++◌, length, map, Some, None, ap}
use Rattle.std.proofs.{Common.{arith, refl, sym, nat_lt}, lemmas.{Bool.Decides.nat_tests, List.length-map}}
use Rattle.std.{proofs.lemmas.List.map-append, specs.{Prelude.{Bool, ◌&&◌, ◌||◌, ◌==◌, not}, List.list_any}}
use Rattle.{std.specs.Option.option_map_or, headers_syntax.specs.{AsciiCase.same_name, Text.trim}}
use Rattle.rfc_fields.specs.{Directives.HasParameters, Members.members_of, Scan.{Member, Member.Whole}}
use Rattle.rfc_lists.specs.Elements.{are_hop, are_pairs, is_hop, is_new, pair_name, with_first}
use denote.Ref.{Bor}

abbrev pub text_of : Bor (List ℕ) → List ℕ
text_of name = name.now

any-map : (p : List ℕ → Bool) (names : List (Bor (List ℕ)))
    → list_any p (map text_of names) ≡ list_any (λ name. p (text_of name)) names
any-map p [] = refl
any-map p (name ∷ names) = ap (λ k. p (text_of name) || k) (any-map p names)

module _ (names : List (Bor (List ℕ))) where
  pub new_unless : (name : List ℕ) (has : Bool) → length names < 100
      → has ≡ list_any (λ (other : Bor (List ℕ)). same_name name other.now) names
      → not has ≡ is_new (map text_of names) name
  new_unless name has h e =
      let below : nat_lt (length names) 100 ≡ true = grind (arith, nat_tests) in
      ap not (e ∙ sym (any-map (same_name name) names))
      ∙ sym (ap (λ n. nat_lt n 100 && not (list_any (same_name name) (map text_of names))) (length-map names text_of)
      ∙ ap (λ k. k && not (list_any (same_name name) (map text_of names))) below)

  module _ (member : Member) (members : List Member) where
    abbrev Left : Bool
    Left = are_pairs (map text_of names) (member ∷ members)

    abbrev goes_on : List ℕ → Bool
    goes_on name = is_new (map text_of names) name && are_pairs (map text_of names ++ name ∷ []) members

    pub no_pair : pair_name member ≡ None → Left ≡ false
    unfolding are_pairs
    no_pair e = ap (λ found. option_map_or goes_on found false) e

    module _ (name : Bor (List ℕ)) (e : pair_name member ≡ Some (text_of name)) where
      pub known_pair : is_new (map text_of names) (text_of name) ≡ false → Left ≡ false
      unfolding are_pairs
      known_pair n = ap (λ found. option_map_or goes_on found false) e
          ∙ ap (λ k. k && are_pairs (map text_of names ++ text_of name ∷ []) members) n

      pub new_pair : (more : List (Bor (List ℕ))) → is_new (map text_of names) (text_of name) ≡ true
          → more ≡ names ++ name ∷ [] → Left ≡ are_pairs (map text_of more) members
      unfolding are_pairs
      new_pair more n m = ap (λ found. option_map_or goes_on found false) e
          ∙ ap (λ k. k && are_pairs (map text_of names ++ text_of name ∷ []) members) n
          ∙ ap (λ t. are_pairs t members) (sym (ap (map text_of) m ∙ map-append text_of names (name ∷ [])))

pub no_pairs_left : (names : List (List ℕ)) (members : List Member) → members ≡ [] → are_pairs names members ≡ true
unfolding are_pairs
no_pairs_left names members e = ap (are_pairs names) e

first_member : (first : List ℕ) (others : List Member) (k : Bool) → (length (trim first) == 0) ≡ k
    → members_of (Whole first ∷ others) ≡ cond k (members_of others) (Whole (trim first) ∷ members_of others)
first_member first others true e = ap (λ j. cond (not j) (Whole (trim first) ∷ members_of others) (members_of others)) e
first_member first others false e =
    ap (λ j. cond (not j) (Whole (trim first) ∷ members_of others) (members_of others)) e

pub hop_by_parts : (element value : List ℕ) (parameters : List Member) → HasParameters element value parameters
    → is_hop element ≡ are_pairs [] (with_first value parameters)
hop_by_parts element value parameters h =
    ap are_hop h.cut ∙ ap (are_pairs []) (first_member h.first h.others (length (trim h.first) == 0) refl)
    ∙ ap (λ ps. are_pairs [] (with_first (trim h.first) ps)) (sym h.listed)
    ∙ ap (λ t. are_pairs [] (with_first t parameters)) (sym h.trimmed)

module _ (element value : List ℕ) (parameters : List Member) (h : HasParameters element value parameters)
    (given : List (List ℕ)) (none : given ≡ []) (new : Bool) (names : List (List ℕ))
    (e : are_pairs given (with_first value parameters) ≡ (new && are_pairs names parameters)) where
  first_found : is_hop element ≡ (new && are_pairs names parameters)
  first_found = hop_by_parts element value parameters h
      ∙ ap (λ (found : List (List ℕ)). are_pairs found (with_first value parameters)) (sym none) ∙ e

  pub not_first : new ≡ false → false ≡ is_hop element
  not_first n = sym (first_found ∙ ap (λ k. k && are_pairs names parameters) n)

  pub after_first : new ≡ true → is_hop element ≡ are_pairs names parameters
  after_first n = first_found ∙ ap (λ k. k && are_pairs names parameters) n
