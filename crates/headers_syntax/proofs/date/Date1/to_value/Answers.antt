use Rattle.headers_syntax.{proofs.DateLemmas.{date-fixdate, fixdate-is, fixdate_visible}, specs.Date.{date, fixdate}}
use Rattle.http_header.{proofs.TokenLemmas.IsFieldValue-from_visible, specs.FieldValue.{IsFieldValue, plain_value}}
use Rattle.{httpdate.specs.Valid.IsValid, std.proofs.Common.{Some, ap, subst, sym, ℕ, ◌∙◌, ◌≡◌}}
use Rattle.headers_syntax.proofs.date.Date1.to_value.Goals as goal

pub from_known_valid-requires : goal.from_known_valid-requires
from_known_valid-requires c = let d = c.in-Ok.date in let valid : IsValid d.parts = (d.civil, d.time, d.right_day) in
    subst IsFieldValue (sym (c.in_ok-text.ensures ∙ c.to_bytes.ensures))
    (IsFieldValue-from_visible _ (fixdate_visible d.parts valid))

pub returns : goal.returns
returns c = let d = c.in-Ok.date in let valid : IsValid d.parts = (d.civil, d.time, d.right_day) in
    let second = c.in-Ok.ensures.value ∙ c.self.view_is in
    let printed = ap fixdate (sym second) ∙ fixdate-is d.parts valid in
    let value = c.from_known_valid.ensures ∙ ap plain_value (c.in_ok-text.ensures ∙ c.to_bytes.ensures ∙ sym printed) in
    record {
      value = value;
      reads_back = ap (λ v. date v.bytes) value ∙ subst (λ (n : ℕ). date (fixdate n) ≡ Some n) second
          (date-fixdate d.parts valid);
    }
