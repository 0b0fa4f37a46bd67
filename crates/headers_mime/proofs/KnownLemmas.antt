-- The texts of the constants are canonical, by computation.
use Rattle.headers_mime.specs.MediaTypeReading.{canonical_of, read_essence, read_media, read_optional, read_parameter}
use Rattle.headers_mime.specs.MediaTypeReading.{read_parameters, read_segment, read_token, read_value, value_len}
use Rattle.headers_mime.{proofs.CanonicalLemmas.canonical-from_canonical_of, specs.MediaType.IsCanonical}
use Rattle.std.proofs.{Common.{List, Some, refl, ℕ, ◌≡◌}, lemmas.List.Elements.{All-from_recursion, All-weaker}}
use Rattle.{headers_mime.specs.MimeText.known_texts, http_header.specs.Token.is_token_byte, std.specs.List.All}

-- each is its own canonical text
pub known_texts-canonical : All IsCanonical known_texts
unfolding is_token_byte value_len read_token read_value read_parameter read_optional read_segment read_parameters
    read_essence read_media
known_texts-canonical = let IsOwn : List ℕ → Type 0 = λ s. canonical_of s ≡ Some s in
    All-weaker IsOwn IsCanonical (λ s. canonical-from_canonical_of s s) known_texts
    (All-from_recursion IsOwn known_texts (refl, (refl, (refl, (refl, (refl, (refl, (refl, (refl, (refl, tt))))))))))
