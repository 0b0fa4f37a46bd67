-- Content ranges and dispositions, as C sees them.
use Rattle.std.specs.{Prelude.{◌≡◌, ◌↔◌, ◌≤◌, ℕ, List, Some, codes, is_some}, Option.unwrap_or}
use Rattle.{http_header.specs.FieldValue.FieldValue, headers.specs.ContentBytes.ContentBytes}
use Rattle.headers.specs.{Disposition.disposition_of, HeaderLaws.ReadsBy, Lines.Line, Shapes.first_kept}
use Rattle.{c_decisions.specs.Flags.flag_of, c_parts.specs.declared.formats.ContentRangeParts.ContentRangeParts}

-- the numbers of the range and the length; those that aren't there are 0
abbrev pub parts_of : ContentBytes → ContentRangeParts
parts_of content =
    record {
      first = (unwrap_or content.range (0, 0)).0;
      last = (unwrap_or content.range (0, 0)).1;
      length = unwrap_or content.length 0;
      has_range = flag_of (is_some content.range);
      has_length = flag_of (is_some content.length);
    }

abbrev pub ShowsContentRange : ContentBytes → ContentRangeParts → Type 0
ShowsContentRange content shown = shown ≡ parts_of content

-- the first line, whatever it is
abbrev pub reads_disposition : List Line → FieldValue → Type 0
reads_disposition = ReadsBy (first_kept (λ (value : FieldValue). value.bytes))

-- the line has the disposition of this word
abbrev pub IsDisposition : FieldValue → List ℕ → Type 0
IsDisposition value word = disposition_of value.bytes ≡ Some word

-- 1 exactly for `inline`, 2 exactly for `attachment`, 3 exactly for `form-data`, and no greater number
pub record ShowsDisposition (value : FieldValue) (kind : ℕ) : Type 0 where
  pub is_inline : (kind ≡ 1) ↔ IsDisposition value (codes "inline")
  pub is_attachment : (kind ≡ 2) ↔ IsDisposition value (codes "attachment")
  pub is_form_data : (kind ≡ 3) ↔ IsDisposition value (codes "form-data")
  pub few : kind ≤ 3
