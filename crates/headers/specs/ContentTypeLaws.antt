-- The laws of the header `content-type`.
use Rattle.std.proofs.Common.{◌≡◌, ℕ, List, [], ◌∷◌, refl, sym, ◌∙◌, ap, subst}
use Rattle.headers_syntax.{specs.HeaderLaws.HeaderLaws, specs.Lines.Line}
use Rattle.headers_mime.{specs.MediaType.{canonical, canonical_parts, media_text}, proofs.ReadingLemmas.one_reading}
use Rattle.headers_mime.proofs.CanonicalLemmas.{canonical-media, canonical_parts-twice}
use Rattle.headers_mime.proofs.MimeLemmas.{canonical-text}
use Rattle.headers.specs.ContentType.{ReadsType, type_line}

type_once : (lines : List Line) (v w : List ℕ) → ReadsType lines v → ReadsType lines w → v ≡ w
type_once [] v w h k = absurd h
type_once (line ∷ lines) v w h k = h.3 ∙ ap canonical (one_reading line h.1 k.1 h.2 k.2) ∙ sym k.3

type_back : (lines : List Line) (v : List ℕ) → ReadsType lines v → ReadsType (type_line v) v
type_back [] v h = absurd h
type_back (line ∷ lines) v h =
    subst (λ (text : List ℕ). ReadsType (type_line text) text) (sym h.3) (
      canonical-text line h.1 h.2,
      canonical_parts h.1,
      canonical-media line h.1 h.2,
      sym
          (ap media_text (canonical_parts-twice h.1)),
    )

pub content_type_laws : HeaderLaws (λ (v w : List ℕ). v ≡ w) ReadsType type_line
content_type_laws =
    record {
      same_refl = λ v. refl;
      same_sym = λ v w e. sym e;
      same_trans = λ u v w e f. e ∙ f;
      reads_same = λ lines v w e h. subst (ReadsType lines) e h;
      writes_same = λ v w e. ap type_line e;
      reads_once = type_once;
      reads_back = type_back;
    }
