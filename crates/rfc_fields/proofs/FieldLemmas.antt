-- The loops over the members of a field.
use Rattle.{headers_syntax.specs.Lines.Line, rfc_fields.proofs.DirectiveLemmas.directive_once}
use Rattle.rfc_fields.proofs.{JoinLemmas.join_keeps_members, PieceLemmas.whole_members}
use Rattle.rfc_fields.specs.Directives.{AreDirectives, DirectiveParts, FindsDirective, HasOtherThanDirectives}
use Rattle.rfc_fields.specs.Directives.{IsClearOf, IsMemberDirective, directive_member, directive_text, is_directive}
use Rattle.rfc_fields.specs.{Directives.{is_named, or_named}, Laws.{DirectivesParseOneWay, JoinKeepsDirectives}}
use Rattle.rfc_fields.specs.{Laws.{MalformedIsClearOfNone, WellFormedFieldIsWhole}, Members.{combined, field_members}}
use Rattle.{rfc_fields.specs.{Members.{is_well_formed, is_whole, members}, Scan.Member}, std.proofs.Common.{Bool, List}}
use Rattle.std.proofs.Common.{None, Option, Some, [], ap, arith, cond, find, map, refl, subst, sym, true, ℕ, ◌++◌, ◌∙◌}
use Rattle.std.proofs.{Common.{◌∷◌, ◌≡◌}, lemmas.{Bool.and_parts, Grind.common_steps, List.Folds.list_all-append}}
use Rattle.std.{proofs.lemmas.List.append-nil, specs.{List.list_all, Prelude.◌&&◌}}

-- the members up to what is left are directives, and the first of the name among them was found
pub record SoFar (name : List ℕ) (initial left : List Member) (found : Option DirectiveParts) : Type 0 where
  pub directives : List DirectiveParts
  pub valid : list_all is_directive directives ≡ true
  pub split : initial ≡ map directive_member directives ++ left
  pub first : found ≡ find (is_named name) directives

all_more : (ds : List DirectiveParts) (d : DirectiveParts) → list_all is_directive ds ≡ true → is_directive d ≡ true
    → list_all is_directive (ds ++ d ∷ []) ≡ true
all_more [] d h e = ap (λ c. c && true) e
all_more (x ∷ ds) d h e =
    grind (arith, and_parts, all_more ds d (and_parts (is_directive x) (list_all is_directive ds) h).1 e)

split_more : (ds : List DirectiveParts) (d : DirectiveParts) (rest : List Member)
    → map directive_member ds ++ directive_member d ∷ rest ≡ map directive_member (ds ++ d ∷ []) ++ rest
split_more [] d rest = refl
split_more (x ∷ ds) d rest = ap (λ ms. directive_member x ∷ ms) (split_more ds d rest)

find_case : (name : List ℕ) (x d : DirectiveParts) (ds : List DirectiveParts) (c : Bool)
    → or_named name (find (is_named name) ds) d ≡ find (is_named name) (ds ++ d ∷ [])
    → or_named name (cond c (Some x) (find (is_named name) ds)) d
    ≡ cond c (Some x) (find (is_named name) (ds ++ d ∷ []))
find_case name x d ds c h = grind arith

find_more : (name : List ℕ) (ds : List DirectiveParts) (d : DirectiveParts)
    → or_named name (find (is_named name) ds) d ≡ find (is_named name) (ds ++ d ∷ [])
find_more name [] d = refl
find_more name (x ∷ ds) d = find_case name x d ds (is_named name x) (find_more name ds d)

pub so_far_more : (name : List ℕ) (initial left rest : List Member) (m : Member) (found : Option DirectiveParts)
    (d : DirectiveParts) → SoFar name initial left found → left ≡ m ∷ rest → IsMemberDirective m d
    → SoFar name initial rest (or_named name found d)
so_far_more name initial left rest m found d h e k = grind (arith, all_more, split_more, find_more)

pub so_far_end : (lines : List Line) (name : List ℕ) (initial left : List Member) (found : Option DirectiveParts)
    → initial ≡ field_members true lines → SoFar name initial left found → left ≡ [] → FindsDirective lines name found
so_far_end lines name initial left found is h e = grind (arith, append-nil)

-- a member among directives is one
other_in : (before ds : List DirectiveParts) (m : Member) (rest : List Member)
    → map directive_member before ++ m ∷ rest ≡ map directive_member ds → list_all is_directive ds ≡ true
    → (d : DirectiveParts) × IsMemberDirective m d
other_in [] [] m rest e v = absurd (cc e)
other_in [] (d ∷ ds) m rest e v =
    let head : directive_member d ≡ m = cc in (
      d,
      subst (λ (x : Member). IsMemberDirective x d) head (record {
        valid = (and_parts (is_directive d) (list_all is_directive ds) v).0;
        written = refl;
      }),
    )
other_in (x ∷ before) [] m rest e v = absurd (cc e)
other_in (x ∷ before) (d ∷ ds) m rest e v = grind (arith, common_steps, other_in before ds m rest, and_parts)

pub so_far_other : (lines : List Line) (name : List ℕ) (initial left rest : List Member) (m : Member)
    (found : Option DirectiveParts) → initial ≡ field_members true lines → SoFar name initial left found
    → left ≡ m ∷ rest → ((d : DirectiveParts) → IsMemberDirective m d → ⊥) → HasOtherThanDirectives lines
so_far_other lines name initial left rest m found is h e other ds are = grind (arith, other_in)

-- the directives of a field are fixed by its members
directives_once : (ds es : List DirectiveParts) → list_all is_directive ds ≡ true → list_all is_directive es ≡ true
    → map directive_member ds ≡ map directive_member es → ds ≡ es
directives_once [] [] v w e = refl
directives_once [] (y ∷ es) v w e = cc
directives_once (x ∷ ds) [] v w e = cc
directives_once (x ∷ ds) (y ∷ es) v w e =
    let p = and_parts (is_directive x) (list_all is_directive ds) v in
    let q = and_parts (is_directive y) (list_all is_directive es) w in
    let texts : directive_text x ≡ directive_text y = cc in
    let tails : map directive_member ds ≡ map directive_member es = cc in
    let same : x ≡ y = directive_once _ x y (record { valid = p.0; written = refl })
    (record { valid = q.0; written = texts }) in
    ap (λ d. d ∷ ds) same ∙ ap (λ ds. y ∷ ds) (directives_once ds es p.1 q.1 tails)

pub are_once : (lines : List Line) (ds es : List DirectiveParts) → AreDirectives lines ds → AreDirectives lines es
    → ds ≡ es
are_once lines ds es h k = directives_once ds es h.valid k.valid (sym h.written ∙ k.written)

pub found_once : (lines : List Line) (name : List ℕ) (a b : Option DirectiveParts) → FindsDirective lines name a
    → FindsDirective lines name b → a ≡ b
found_once lines name a b h k = grind (arith, are_once)

pub not_clear : (lines : List Line) (name : List ℕ) (d : DirectiveParts) → FindsDirective lines name (Some d)
    → IsClearOf lines name → ⊥
not_clear lines name d h k = let same : Some d ≡ None = found_once lines name (Some d) None h k in cc

pub directives_parse_one_way : DirectivesParseOneWay
directives_parse_one_way = record { one = directive_once; all = are_once }

join_members : (lines : List Line) → list_all is_well_formed lines ≡ true
    → field_members true (combined lines ∷ []) ≡ field_members true lines
join_members lines h = append-nil (members true (combined lines)) ∙ (join_keeps_members true lines h).1

pub join_keeps_directives : JoinKeepsDirectives
join_keeps_directives lines ds h = grind (arith, join_members)

pub whole_field : WellFormedFieldIsWhole
whole_field q [] = refl
whole_field q (line ∷ lines) = grind (arith, list_all-append, whole_members, whole_field q lines)

all_whole : (ds : List DirectiveParts) → list_all is_whole (map directive_member ds) ≡ true
all_whole [] = refl
all_whole (d ∷ ds) = all_whole ds

pub malformed_is_clear_of_none : MalformedIsClearOfNone
malformed_is_clear_of_none lines name bad h = grind (arith, all_whole, whole_field)
