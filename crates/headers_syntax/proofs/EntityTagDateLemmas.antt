-- A printed date is no entity tag.
use Rattle.headers_syntax.proofs.{DateLemmas.{date_parts, fixdate-is, wday_range}, EntityTagLemmas.is_tag-false}
use Rattle.headers_syntax.specs.{Date.{date, fixdate}, EntityTag.{is_tag, tag_text}, Lines.Line}
use Rattle.{httpdate.{proofs.FormatLemmas.imf_fixdate_grouped, specs.Text.day_name}, std.proofs.Common.{Bool, Some, ap}}
use Rattle.std.proofs.Common.{arith, false, get_or, sym, true, ℕ, ◌++◌, ◌==◌, ◌∙◌, ◌∷◌, ◌≡◌, ◌≢◌}
use Rattle.std.{proofs.lemmas.Bool.eqb-false, specs.Int.IsInRange}

-- a tag begins with a quote, or has a slash next
no_tag_text : (a b : ℕ) (rest : Line) → (a == 34) ≡ false → (b == 47) ≡ false → (is_weak : Bool) (opaque : Line)
    → a ∷ b ∷ rest ≢ tag_text (record { is_weak = is_weak; opaque = opaque })
no_tag_text a b rest first second true opaque e = eqb-false b 47 second (ap (λ s. get_or s 1 0) e)
no_tag_text a b rest first second false opaque e = eqb-false a 34 first (ap (λ s. get_or s 0 0) e)

no_tag : (a b : ℕ) (rest : Line) → (a == 34) ≡ false → (b == 47) ≡ false → is_tag (a ∷ b ∷ rest) ≡ false
no_tag a b rest first second = grind (arith, is_tag-false)

-- the name of a day has neither
day_no_tag : (n : ℕ) (rest : Line) → IsInRange 1 7 n → is_tag (day_name n ++ rest) ≡ false
day_no_tag n rest = grind (arith, no_tag)

pub is_tag-fixdate : (line : Line) (n : ℕ) → date line ≡ Some n → is_tag (fixdate n) ≡ false
is_tag-fixdate line n e = let shown = date_parts line n e in let p = shown.0 in
    ap is_tag (ap fixdate (sym shown.2) ∙ fixdate-is p shown.1 ∙ imf_fixdate_grouped p) ∙ day_no_tag p.wday _
    (wday_range p shown.1)
