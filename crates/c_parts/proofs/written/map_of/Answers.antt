use Rattle.std.proofs.Common.{rules, ◌≡◌, ◌∙◌, ◌+◌, ◌^◌, ◌<◌, List, [], ◌∷◌, ◌++◌, ap, append_assoc, arith, length}
use Rattle.std.{proofs.Common.{length-append, subst, sym}, proofs.lemmas.List.{append-nil, nil_from_length}}
use Rattle.http_header.{specs.FieldValue.FieldValue, specs.HeaderMap.{Entries, RefusesAppend, append, get_all}}
use Rattle.c_parts.proofs.WrittenLemmas.{append-alone, get_all-alone, has_room}
use Rattle.c_parts.proofs.written.map_of.Goals as goal

pub loop-value-preserved : goal.loop-value-preserved
loop-value-preserved c =
    let taken = c.loop-value.invariant.0 in
    let value = c.in-Some.value in (
      taken ++ value ∷ [],
      c.in-Ok.ensures.ok
          ∙ ap (λ (m : Entries FieldValue). append m c.args.name.now value) c.loop-value.invariant.1
          ∙ append-alone c.args.name.now taken value,
      append_assoc taken (value ∷ []) c.next.new.self.rest.items
          ∙ ap (λ (vs : List FieldValue). taken ++ vs) (sym c.in-Some.ensures.items)
          ∙ c.loop-value.invariant.2,
      c.loop-value.invariant.3,
    )

pub unreachable-requires : goal.unreachable-requires
unreachable-requires c =
    let taken = c.loop-value.invariant.0 in
    let left = c.loop-value.left.rest.items in
    let refuses : RefusesAppend c.loop-value.map c.args.name.now = search rules in
    let long : length (taken ++ left) ≡ length c.args.values.items = ap length c.loop-value.invariant.2 in
    let more : length left ≡ length c.next.new.self.rest.items + 1 = omega (arith, ap length c.in-Some.ensures.items) in
    let few : length taken + 1 < 2 ^ 64 =
    omega (arith, long, more, length-append taken left, c.len-count.ensures, c.len-count.type_inv) in
    has_room c.args.name.now taken few
    (subst (λ (m : Entries FieldValue). RefusesAppend m c.args.name.now) c.loop-value.invariant.1 refuses)

pub returns-clause-map : goal.returns-clause-map
returns-clause-map c =
    let taken = c.loop-value.invariant.0 in
    let zero : length c.loop-value.left.rest.items ≡ 0 =
    omega (arith, c.in_default.ensures.cases, c.loop-value.left.rest.ok.0) in
    ap (λ (m : Entries FieldValue). get_all m c.args.name.now) c.loop-value.invariant.1
    ∙ get_all-alone c.args.name.now taken
    ∙ sym (append-nil taken)
    ∙ ap (λ (vs : List FieldValue). taken ++ vs) (sym (nil_from_length c.loop-value.left.rest.items zero))
    ∙ c.loop-value.invariant.2
