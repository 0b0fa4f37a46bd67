-- How acceptable an offer is, by what a caller hands in.
use Rattle.std.specs.Prelude.{◌≡◌, ℕ, List, Result, Ok, Err}
use Rattle.{http_header.specs.FieldValue.FieldValue, headers.specs.Lines.Line}
use Rattle.decide_negotiation.specs.declared.acceptability.Quality.{Quality, TheVariants.{NotAcceptable, Unlisted}}
use Rattle.decide_negotiation.specs.declared.acceptability.Quality.TheVariants.{Weight}
use Rattle.{c_parts.specs.{FieldText.field_lines, declared.status.Failure.Failure}, c_decisions.specs.Texts.AreValuesOf}
use Rattle.c_decisions.specs.{Texts.FailsAt, declared.quality.OfferQuality.OfferQuality}

abbrev pub shown : Quality → OfferQuality
shown NotAcceptable = record { weight = 0; is_acceptable = 0 }
shown Unlisted = record { weight = 0; is_acceptable = 1 }
shown (Weight thousandths) = record { weight = thousandths; is_acceptable = 1 }

-- the quality that the lines of a field give to the offer, or the failure of reading them
abbrev pub Rates : (List Line → List ℕ → Quality) → (lines offer : List ℕ) → Result OfferQuality Failure → Type 0
Rates quality lines offer (Ok rating) =
    (field : List FieldValue) × AreValuesOf lines field × (rating ≡ shown (quality (field_lines lines) offer))
Rates quality lines offer (Err failure) = FailsAt lines failure
