-- Which representation a request selects (RFC 9110, section 12.1).
use Rattle.std.specs.Prelude.{ℕ, ◌+◌, ◌*◌, ◌==◌, Bool, true, false, ◌&&◌, ◌||◌, List, slice_get, Option, Some, None}
use Rattle.std.specs.{Prelude.{codes, find, if◌then◌else◌, nat_le, nat_lt, option_map}, List.list_all}
use Rattle.{std.specs.Option.{option_map_or, option_or}, headers.specs.{LineMap.LineMap, Lines.Line}}
use Rattle.{rfc_fields.specs.Scan.Member, decide_negotiation.specs.{Codings.encoding_quality, Languages.language_says}}
use Rattle.decide_negotiation.specs.{MediaRanges.media_type_says, Qualities.{quality_by, quality_in, rank}}
use Rattle.decide_negotiation.specs.declared.acceptability.Quality.{Quality}
use Rattle.decide_resource.specs.declared.representation.{Negotiation.Negotiation, Representation.Representation}

-- The rank of an offer by the lines of a field. Without an offer, or if the field isn't used, it is that of weight 1.
abbrev pub rank_by : (List Member → List ℕ → Quality) → Bool → List Line → Option Line → ℕ
rank_by gives used lines None = 1001
rank_by gives false lines (Some offer) = 1001
rank_by gives true lines (Some offer) = rank (quality_in gives lines offer)

-- content without a coding is `identity` (section 12.5.3)
abbrev pub coding_of : Representation → Line
coding_of representation = option_map_or (λ coding. coding.bytes) representation.coding (codes "identity")

-- the media type counts most, then the language, then the coding; a language alone excludes nothing
abbrev pub joined : ℕ → ℕ → ℕ → ℕ
joined media_type language coding =
    if media_type == 0 || coding == 0 then 0 else (media_type * 131072 + language) * 131072 + coding

-- How much a client prefers a representation: 0 if its media type or its coding isn't acceptable.
unfoldable pub score : Negotiation → LineMap → Representation → ℕ
score negotiation fields representation =
    joined
    (
    rank_by (quality_by media_type_says) negotiation.media_type (fields (codes "accept"))
    (option_map (λ value. value.bytes) representation.content.media_type)
    )
    (
    rank_by (quality_by language_says) negotiation.language (fields (codes "accept-language"))
    (option_map (λ value. value.bytes) representation.language)
    )
    (
    rank_by encoding_quality negotiation.coding (fields (codes "accept-encoding"))
    (Some (coding_of representation))
    )

-- the client accepts a representation, and prefers none of these to it
abbrev pub is_preferred : (Representation → ℕ) → List Representation → Representation → Bool
is_preferred scored representations one =
    nat_lt 0 (scored one) && list_all (λ other. nat_le (scored other) (scored one)) representations

-- the first that it prefers, or else the first
abbrev pub first_preferred : (Representation → ℕ) → List Representation → Option Representation
first_preferred scored representations =
    option_or (find (is_preferred scored representations) representations) (slice_get representations 0)

abbrev pub are_unacceptable : Negotiation → LineMap → List Representation → Bool
are_unacceptable negotiation fields representations = list_all (λ r. score negotiation fields r == 0) representations
