use Rattle.{std.{proofs.Common.{◌∙◌, ap, sym}, specs.List.slice_split}, rfc_lists.specs.CookieDates.found_date}
use Rattle.rfc_lists.specs.{CookieDates.{is_delimiter, with_tokens}, declared.cookie_dates.Found.Found}
use Rattle.rfc_lists.proofs.DateLemmas.{last_token, next_token}
use Rattle.rfc_lists.proofs.cookie_dates.cookie_date.Goals as goal

pub loop-token-preserved : goal.loop-token-preserved
loop-token-preserved c =
    let cut = rw c.in-Some.is at (sym c.cut_token.ensures) in
    let next = next_token c.loop-token.left.now _ _ _ c.loop-token.found cut c.loop-token.invariant in
    let left = slice_split is_delimiter c.in-Some.rest.now in
    next ∙ ap (λ (f : Found). with_tokens f left) (sym c.with_token-found.ensures)

pub returns : goal.returns
returns c =
    let none = rw c.in_default.is at (sym c.cut_token.ensures) in
    let last = last_token c.loop-token.left.now _ c.loop-token.found none c.loop-token.invariant in
    c.found_date.ensures ∙ ap found_date (c.with_token.ensures ∙ sym last)
