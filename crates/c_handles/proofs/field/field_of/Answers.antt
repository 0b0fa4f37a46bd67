use Rattle.{std.proofs.Common.{◌<◌, inr, length, rules, sym}, http_header.specs.HeaderMap.get_all}
use Rattle.c_parts.proofs.WrittenLemmas.{has_values}
use Rattle.c_handles.proofs.field.field_of.Goals as goal

pub returns-in-Some : goal.returns-in-Some
returns-in-Some c =
    let values = get_all c.args.fields.now c.in_ok-name.name in
    let some : 0 < length values = search rules in
    let block = rw c.in-Some.is at (c.in_ok-lines.ensures some) in (
      c.in_ok-name.ensures.0,
      rw (sym c.in_ok-name.ensures.1) (has_values values some),
      rw (sym c.in_ok-name.ensures.1) block,
    )

pub returns : goal.returns
returns c =
    let values = get_all c.args.fields.now c.in_ok-name.name in
    let some : 0 < length values = search rules in
    let block = rw c.in-None.is at (c.in_ok-lines.ensures some) in
    inr (rw (sym c.in_ok-name.ensures.1) (has_values values some), rw (sym c.in_ok-name.ensures.1) block)
