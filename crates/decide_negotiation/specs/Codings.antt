-- Content codings (RFC 9110, sections 8.4.1 and 12.5.3).
use Rattle.std.specs.Prelude.{ℕ, Bool, true, List, [], ◌∷◌, Option, Some, None, codes, fold, option_and_then}
use Rattle.std.specs.Prelude.{if◌then◌else◌}
use Rattle.{headers_syntax.specs.AsciiCase.same_name, rfc_fields.specs.Members.members}
use Rattle.{rfc_fields.specs.Scan.{Member, Member.{Whole, Malformed}}, decide_negotiation.specs.Elements.ElementParts}
use Rattle.decide_negotiation.specs.{Elements.bare_element_of, MediaRanges.is_star, Preferences.strongest}
use Rattle.decide_negotiation.specs.declared.{preference.Preference.Preference, acceptability.Quality.Quality}
use Rattle.decide_negotiation.specs.Qualities.{least, weighed}

-- `x-gzip` and `x-compress` are other names of `gzip` and `compress` (sections 8.4.1.1 and 8.4.1.3)
abbrev pub registered : List ℕ → List ℕ
registered name =
    if same_name name (codes "x-gzip") then codes "gzip"
    else (if same_name name (codes "x-compress") then codes "compress" else name)

-- both name one coding, in any case
unfoldable pub is_same_coding : List ℕ → List ℕ → Bool
is_same_coding a b = same_name (registered a) (registered b)

-- a star matches each coding, and any other element the coding that it names
abbrev pub says_of : List ℕ → ElementParts → Option Preference
says_of coding e =
    if is_star e.range then Some (record { names = 0; extent = 0; quality = e.weight })
    else (if is_same_coding e.range coding then Some (record { names = 1; extent = 0; quality = e.weight }) else None)

abbrev pub coding_says : List ℕ → Member → Option Preference
coding_says coding member = option_and_then (says_of coding) (bare_element_of member)

-- a coding that no element matches isn't acceptable, except `identity`
abbrev pub unlisted : List ℕ → Quality
unlisted coding = if same_name coding (codes "identity") then Quality.Unlisted else Quality.NotAcceptable

abbrev pub quality_or : Option Preference → Quality → Quality
quality_or None quality = quality
quality_or (Some p) quality = weighed p.quality

-- the quality of one coding
unfoldable pub coding_quality : List Member → List ℕ → Quality
coding_quality field coding = quality_or (strongest (coding_says coding) field) (unlisted coding)

-- the quality of one coding of an offer
abbrev pub member_quality : List Member → Member → Quality
member_quality field (Whole coding) = coding_quality field coding
member_quality field Malformed = Quality.NotAcceptable

-- Content with several codings is acceptable if each of them is, so its quality is the least of theirs. Content without
-- a coding is `identity`.
abbrev pub quality_of_all : List Member → List Member → Quality
quality_of_all field [] = coding_quality field (codes "identity")
quality_of_all field (coding ∷ codings) =
    fold (λ q c. least q (member_quality field c)) (member_quality field coding) codings

-- the quality of content whose Content-Encoding has this value
unfoldable pub encoding_quality : List Member → List ℕ → Quality
encoding_quality field offer = quality_of_all field (members true offer)
