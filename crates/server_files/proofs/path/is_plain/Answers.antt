use Rattle.std.proofs.Common.{◌≡◌, ◌&&◌, ◌==◌, Bool, List, ℕ, true, false, ap, rules, sym, tests, ◌∙◌}
use Rattle.std.proofs.lemmas.Iterator.Search.{all_from_yields_List}
use Rattle.std.{proofs.lemmas.Iterator.Splits.YieldsList-from_slice_split, specs.List.{list_all, slice_split}}
use Rattle.server_files.{specs.Path.{are_names, is_first_name, is_name}, proofs.PathLemmas.first_yielded}
use Rattle.server_files.proofs.path.is_plain.Goals as goal

pub returns-then-is_first_name : goal.returns-then-is_first_name
returns-then-is_first_name c =
    let parts : List (List ℕ) = slice_split (λ (b : ℕ). b == 47) c.args.path.now in
    let cut = first_yielded _ _ c.split-names.result c.next.new.self parts c.in-Some.first c.in-Some.ensures.steps
    (YieldsList-from_slice_split _ (λ b. b == 47) c.args.path.now
    (c.split-names.ensures.rest ∙ c.as_bytes.ensures.value) c.split-names.ensures.done
    c.split-names.ensures.closure (λ x b q k. search (rules, tests))) in
    let others : c.all.result ≡ list_all is_name cut.0 =
    all_from_yields_List is_name _ _ _ c.all.ensures.ran cut.2 (λ x b q k. search rules) in
    let first : is_first_name c.in-Some.first.now ≡ true = sym c.is_first_name.ensures ∙ c.if-is_first_name.true in
    others ∙ sym (ap are_names cut.1 ∙ ap (λ (b : Bool). b && list_all is_name cut.0) first)

pub returns-else-is_first_name : goal.returns-else-is_first_name
returns-else-is_first_name c =
    let parts : List (List ℕ) = slice_split (λ (b : ℕ). b == 47) c.args.path.now in
    let cut = first_yielded _ _ c.split-names.result c.next.new.self parts c.in-Some.first c.in-Some.ensures.steps
    (YieldsList-from_slice_split _ (λ b. b == 47) c.args.path.now
    (c.split-names.ensures.rest ∙ c.as_bytes.ensures.value) c.split-names.ensures.done
    c.split-names.ensures.closure (λ x b q k. search (rules, tests))) in
    let first : is_first_name c.in-Some.first.now ≡ false = sym c.is_first_name.ensures ∙ c.if-is_first_name.false in
    c.if-is_first_name.false ∙ sym (ap are_names cut.1 ∙ ap (λ (b : Bool). b && list_all is_name cut.0) first)
