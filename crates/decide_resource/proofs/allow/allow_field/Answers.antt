use Rattle.std.{proofs.Common.{◌≡◌, ℕ, List, [], ◌∷◌, codes, rules, refl, ap, ◌∙◌}, specs.Prelude.{IfOk, Result, Ok}}
use Rattle.{std.specs.Prelude.Err, headers.specs.{LineMap.field_of, Lines.{Line, lines_of}, ListItem.method_of}}
use Rattle.headers.specs.{Merge.merge, Places.comma, declared.Encoded.Encoded}
use Rattle.{decide_cors.proofs.WrittenLemmas.listed_values_by, decide_resource.specs.Applies.methods}
use Rattle.decide_resource.proofs.allow.allow_field.Goals as goal

-- a field of this name with these field lines
made : {E : Type 0} (result : Result Encoded E) (name : List ℕ) (lines other : List Line)
    → IfOk result (λ field. field.name ≡ name) → IfOk result (λ field. lines_of field.lines.items ≡ lines)
    → lines ≡ other → IfOk result (λ field. field_of field ≡ (name, other))
made (Ok field) name lines other n l same = cc
made (Err error) name lines other n l same = tt

pub returns : goal.returns
returns c =
    let listed = listed_values_by method_of c.into_iter.result c.in_ok-methods.methods.items c.in_ok-header.header
    c.in_ok-header.header c.into_iter.ensures.rest (search rules) c.in_ok-header.ensures refl in
    let line : c.in_ok-header.header ≡ merge comma (methods c.args.rules.now) =
    listed.bytes ∙ ap (merge comma) c.in_ok-methods.ensures in
    made c.encoding.result (codes "allow") _ _ c.encoding.ensures.name c.encoding.ensures.lines
    (ap (λ (value : Line). value ∷ []) line)
