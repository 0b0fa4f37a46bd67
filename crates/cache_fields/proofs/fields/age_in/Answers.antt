use Rattle.std.{proofs.Common.{◌≡◌, ℕ, List, length, Some, None, take, rules}, specs.Prelude.{nat_lt, if◌then◌else◌}}
use Rattle.std.specs.List.{before_first, position_or_len}
use borrow.Author.Tests.{tests}
use Rattle.std.{proofs.lemmas.Iterator.YieldsList-from_slice, proofs.lemmas.Iterator.Search.position_from_yields_List}
use Rattle.cache_fields.{specs.Fields.is_comma, proofs.FieldLemmas.before_comma}
use Rattle.cache_fields.proofs.fields.age_in.Goals as goal

pub returns : goal.returns
returns c =
    let line : List ℕ = c.args.line.now.bytes in
    let at : c.position.result
    ≡ (if nat_lt (position_or_len is_comma line) (length line) then Some (position_or_len is_comma line) else None) =
    position_from_yields_List is_comma c.position.new.self _ c.position.result c.position.ensures.ran
    (YieldsList-from_slice line cc) (λ x b q k. search (rules, tests)) in
    let end : take c.unwrap_or-end.result line ≡ before_first is_comma line = before_comma line c.position.result
    c.unwrap_or-end.result at (rw c.as_bytes-line.ensures.value at c.unwrap_or-end.ensures) in
    rw (← end) cc
