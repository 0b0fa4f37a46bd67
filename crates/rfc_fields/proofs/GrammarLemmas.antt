-- A list by the grammar is cut in its elements.
use Rattle.std.proofs.Common.{arith, ◌≡◌, ℕ, Bool, true, false, not, cond, List, [], ◌∷◌, ◌++◌, map, refl, sym, ◌∙◌, ap}
use Rattle.std.{proofs.lemmas.{Bool.{and_parts, eq-eqb}, List.{append_assoc, append-nil}}, specs.Prelude.{◌&&◌, ◌==◌}}
use Rattle.{std.specs.List.{flat_map, list_all}, http_header.specs.Token.is_value_byte, rfc_fields.specs.Grammar.Octet}
use Rattle.rfc_fields.specs.Grammar.{Part, Element, is_octet, octet_text, is_part, part_text, is_element, element_text}
use Rattle.rfc_fields.specs.{Grammar.{list_text, IsSeparator, Octet.{Plain, Pair}, Part.{Byte, Quoted}}, Scan.Member}
use Rattle.rfc_fields.specs.{Scan.{state_after, is_cut, closes, push, pieces, Member.Whole}, Laws.ParsesOneWay}
use Rattle.rfc_fields.specs.declared.scan.State.{State, TheVariants.{Outside, Inside, Escaped}}
use Rattle.rfc_fields.proofs.ScanLemmas.{pieces-push, pieces-cut}

pub false_true : false ≡ true → ⊥
false_true e = cc

pub not_true : (c : Bool) → not c ≡ true → c ≡ false
not_true false h = refl
not_true true h = cc

-- bytes before the first of some pieces
abbrev pub push_all : List ℕ → List Member → List Member
push_all [] ps = ps
push_all (b ∷ s) ps = push b (push_all s ps)

pub push_all-append : (xs ys : List ℕ) (ps : List Member) → push_all (xs ++ ys) ps ≡ push_all xs (push_all ys ps)
push_all-append [] ys ps = refl
push_all-append (x ∷ xs) ys ps = ap (push x) (push_all-append xs ys ps)

pub push_all-cons : (xs p : List ℕ) (ps : List Member) → push_all xs (Whole p ∷ ps) ≡ Whole (xs ++ p) ∷ ps
unfolding push
push_all-cons [] p ps = refl
push_all-cons (x ∷ xs) p ps = ap (push x) (push_all-cons xs p ps)

-- over xs the scan goes from one state to the other, and no cut is in xs
pub record Runs (sep : ℕ) (q : Bool) (st : State) (xs : List ℕ) (st' : State) : Type 0 where
  pub splits : (s : List ℕ) → pieces sep q st (xs ++ s) ≡ push_all xs (pieces sep q st' s)
  pub ends : (s : List ℕ) → closes q st (xs ++ s) ≡ closes q st' s

pub runs_none : (sep : ℕ) (q : Bool) (st : State) → Runs sep q st [] st
runs_none sep q st = record { splits = λ s. refl; ends = λ s. refl }

pub runs_byte : (sep : ℕ) (q : Bool) (st st' : State) (b : ℕ) → is_cut sep st b ≡ false → state_after q st b ≡ st'
    → Runs sep q st (b ∷ []) st'
unfolding closes
runs_byte sep q st st' b e n = grind (arith, pieces-push)

pub runs_append : (sep : ℕ) (q : Bool) (st st' st'' : State) (xs ys : List ℕ) → Runs sep q st xs st'
    → Runs sep q st' ys st'' → Runs sep q st (xs ++ ys) st''
runs_append sep q st st' st'' xs ys h k = grind (arith, append_assoc, push_all-append)

never_cut : (sep : ℕ) (b : ℕ) → is_cut sep Inside b ≡ false
never_cut sep b = elim (b == sep) as (λ v. (v && false) ≡ false) [ true ↦ refl | false ↦ refl ]

never_cut' : (sep : ℕ) (b : ℕ) → is_cut sep Escaped b ≡ false
never_cut' sep b = elim (b == sep) as (λ v. (v && false) ≡ false) [ true ↦ refl | false ↦ refl ]

pub runs_octet : (sep : ℕ) (q : Bool) (o : Octet) → is_octet q o ≡ true → Runs sep q Inside (octet_text o) Inside
runs_octet sep q (Plain b) h = grind (arith, and_parts, is_value_byte, runs_byte, never_cut, not_true)
runs_octet sep q (Pair b) h =
    let x = and_parts q (is_value_byte b) h in
    runs_append sep q Inside Escaped Inside (92 ∷ []) (b ∷ [])
    (runs_byte sep q Inside Escaped 92 (never_cut _ 92) (ap (λ c. cond (c && true) Escaped Inside) x.0))
    (runs_byte sep q Escaped Inside b (never_cut' _ b) refl)

pub runs_octets : (sep : ℕ) (q : Bool) (os : List Octet) → list_all (is_octet q) os ≡ true
    → Runs sep q Inside (flat_map octet_text os) Inside
runs_octets sep q [] h = runs_none sep q Inside
runs_octets sep q (o ∷ os) h =
    let x = and_parts (is_octet q o) (list_all (is_octet q) os) h in
    runs_append sep q Inside Inside Inside (octet_text o) (flat_map octet_text os) (runs_octet sep q o x.0)
    (runs_octets sep q os x.1)

pub runs_part : (sep : ℕ) (q : Bool) (g : IsSeparator sep) (p : Part) → is_part sep q p ≡ true
    → Runs sep q Outside (part_text p) Outside
runs_part sep q g (Byte b) h = grind (arith, and_parts, is_value_byte, runs_byte, not_true)
runs_part sep q g (Quoted os) h = runs_append sep q Outside Inside Outside (34 ∷ []) (flat_map octet_text os ++ 34 ∷ [])
    (runs_byte sep q Outside Inside 34 (ap (λ c. c && true) g.quote_not) refl)
    (runs_append sep q Inside Inside Outside (flat_map octet_text os) (34 ∷ []) (runs_octets sep q os h)
    (runs_byte sep q Inside Outside 34 (never_cut sep 34) refl))

pub runs_element : (sep : ℕ) (q : Bool) (g : IsSeparator sep) (e : Element) → is_element sep q e ≡ true
    → Runs sep q Outside (element_text e) Outside
runs_element sep q g [] h = runs_none sep q Outside
runs_element sep q g (p ∷ e) h =
    let x = and_parts (is_part sep q p) (is_element sep q e) h in
    runs_append sep q Outside Outside Outside (part_text p) (element_text e) (runs_part sep q g p x.0)
    (runs_element sep q g e x.1)

-- outside quotes the separator is a cut
cut_here : (sep : ℕ) (q : Bool) (s : List ℕ) → pieces sep q Outside (sep ∷ s) ≡ Whole [] ∷ pieces sep q Outside s
cut_here sep q s = pieces-cut sep q Outside sep s (ap (λ c. c && true) (eq-eqb sep sep refl))

pub closes-list_text : (sep : ℕ) (q : Bool) (g : IsSeparator sep) (e : Element) (es : List Element)
    → list_all (is_element sep q) (e ∷ es) ≡ true → closes q Outside (list_text sep e es) ≡ true
unfolding closes
closes-list_text sep q g e [] h =
    let x = and_parts (is_element sep q e) (list_all (is_element sep q) []) h in
    ap (closes q Outside) (sym (append-nil (element_text e))) ∙ (runs_element sep q g e x.0).ends []
closes-list_text sep q g e (f ∷ es) h =
    let x = and_parts (is_element sep q e) (list_all (is_element sep q) (f ∷ es)) h in
    (runs_element sep q g e x.0).ends (sep ∷ list_text sep f es)
    ∙ ap (λ c. closes q (cond c Inside Outside) (list_text sep f es)) g.not_quote
    ∙ closes-list_text sep q g f es x.1

pub pieces-list_text : (sep : ℕ) (q : Bool) (g : IsSeparator sep) (e : Element) (es : List Element)
    → list_all (is_element sep q) (e ∷ es) ≡ true
    → pieces sep q Outside (list_text sep e es) ≡ map (λ f. Whole (element_text f)) (e ∷ es)
unfolding pieces
pieces-list_text sep q g e [] h =
    let x = and_parts (is_element sep q e) (list_all (is_element sep q) []) h in
    ap (pieces sep q Outside) (sym (append-nil (element_text e))) ∙ (runs_element sep q g e x.0).splits []
    ∙ push_all-cons (element_text e) [] [] ∙ ap (λ t. Whole t ∷ []) (append-nil (element_text e))
pieces-list_text sep q g e (f ∷ es) h =
    let x = and_parts (is_element sep q e) (list_all (is_element sep q) (f ∷ es)) h in
    (runs_element sep q g e x.0).splits (sep ∷ list_text sep f es) ∙ ap (push_all (element_text e)) (cut_here _ q _) ∙
    push_all-cons (element_text e) [] (pieces sep q Outside (list_text sep f es)) ∙ ap
    (λ t. Whole t ∷ pieces sep q Outside (list_text sep f es)) (append-nil (element_text e)) ∙ ap
    (λ ps. Whole (element_text e) ∷ ps) (pieces-list_text sep q g f es x.1)

pub parses_one_way : ParsesOneWay
parses_one_way sep q e es g h = (closes-list_text sep q g e es h, pieces-list_text sep q g e es h)
