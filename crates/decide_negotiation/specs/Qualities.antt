-- Qualities of offers, in order.
use Rattle.std.specs.Prelude.{ℕ, ◌+◌, ◌==◌, true, nat_le, List, [], ◌∷◌, Option, Some, None, if◌then◌else◌}
use Rattle.{headers_syntax.specs.Lines.Line, rfc_fields.specs.{Members.field_members, Scan.Member}}
use Rattle.decide_negotiation.specs.{Preferences.strongest, declared.preference.Preference.Preference}
use Rattle.decide_negotiation.specs.declared.acceptability.Quality.{Quality}

-- the place of a quality in their order: 0 is not acceptable
abbrev pub rank : Quality → ℕ
rank Quality.NotAcceptable = 0
rank Quality.Unlisted = 1
rank (Quality.Weight thousandths) = thousandths + 1

-- the quality of an element's weight; the weight 0 is not acceptable (section 12.4.2)
abbrev pub weighed : ℕ → Quality
weighed thousandths = if thousandths == 0 then Quality.NotAcceptable else Quality.Weight thousandths

-- the lesser of two qualities
abbrev pub least : Quality → Quality → Quality
least q r = if nat_le (rank q) (rank r) then q else r

-- the quality of an offer by the most specific preference, if there is any
abbrev pub preferred : Option Preference → Quality
preferred None = Quality.NotAcceptable
preferred (Some p) = weighed p.quality

-- the quality of an offer by the elements of a field
abbrev pub quality_by : (List ℕ → Member → Option Preference) → List Member → List ℕ → Quality
quality_by says field offer = preferred (strongest (says offer) field)

-- the quality by all lines of a field; without a line each offer has the weight 1000
abbrev pub quality_in : (List Member → List ℕ → Quality) → List Line → List ℕ → Quality
quality_in gives [] offer = Quality.Weight 1000
quality_in gives (line ∷ lines) offer = gives (field_members true (line ∷ lines)) offer
