use Rattle.headers_mime.proofs.{CanonicalLemmas.canonical-from_canonical_of, MimeLemmas.known-reads}
use Rattle.headers_mime.{proofs.MimeLemmas.{reading-from_canonical_of, refused_reading}, specs.MediaType.IsMediaType}
use Rattle.{headers_mime.specs.MimeText.ReadsMime, std.proofs.Common.{Err, Global, List, subst, vec_items, ℕ, ◌∙◌}}
use Rattle.headers_mime.proofs.mime.Mime.parse.Goals as goal

pub from_canonical-requires : goal.from_canonical-requires
from_canonical-requires c = canonical-from_canonical_of c.as_bytes.result.now c.in-Ok.text.items c.in-Ok.ensures

pub returns-in_ok-from_canonical-in-Ok : goal.returns-in_ok-from_canonical-in-Ok
returns-in_ok-from_canonical-in-Ok c =
    let m = reading-from_canonical_of c.as_bytes.result.now c.in-Ok.text.items c.in-Ok.ensures in (
      m.0,
      subst (λ (s : List ℕ). IsMediaType s m.0) c.as_bytes.ensures.value m.1,
      c.in_ok-from_canonical-in-Ok.ensures ∙ m.2,
    )

pub returns-in-Err : goal.returns-in-Err
returns-in-Err c = subst (λ (s : List ℕ). ReadsMime s (Err c.in-Err.refused)) c.as_bytes.ensures.value
    (refused_reading (vec_items {Z = Global}) c.as_bytes.result.now c.in-Err.refused c.in-Err.ensures)

pub returns-in-Some : goal.returns-in-Some
returns-in-Some c = known-reads c.args.text.now c.in-Some.mime c.in-Some.ensures.same c.in-Some.ensures.known
