-- The laws of the credentials of a scheme, and of the headers that store credentials.
use Rattle.std.{specs.Prelude.{◌≡◌, ℕ, List, [], ◌∷◌, refl}, proofs.Common.{ap, subst}}
use Rattle.headers_syntax.{specs.Lines.Line, specs.HeaderLaws.HeaderLaws}
use Rattle.headers_authorization.specs.Scheme.{HasScheme, FirstReads}

module _ {V : Type 0} (scheme : List ℕ) (same : V → V → Type 0) (reads : Line → V → Type 0) (writes : V → Line) where
  -- `same` is an equivalence, and decoding and encoding respect it. A field line decodes to at most one value. If a
  -- field line of the scheme decodes to a value, the encoding of the value has the scheme, and decodes to that value.
  pub record CredentialLaws : Type 0 where
    pub same_refl : (v : V) → same v v
    pub same_sym : (v w : V) → same v w → same w v
    pub same_trans : (u v w : V) → same u v → same v w → same u w
    pub reads_same : (line : Line) (v w : V) → same v w → reads line v → reads line w
    pub writes_same : (v w : V) → same v w → writes v ≡ writes w
    pub reads_once : (line : Line) (v w : V) → reads line v → reads line w → same v w
    pub keeps_scheme : (line : Line) (v : V) → HasScheme scheme line → reads line v → HasScheme scheme (writes v)
    pub reads_back : (line : Line) (v : V) → HasScheme scheme line → reads line v → reads (writes v) v

  -- a header that stores the credentials of the first field line has the laws of headers, if they have theirs
  pub first_laws : {H : Type 0} (kept : H → V) → CredentialLaws
      → HeaderLaws (λ (v w : H). same (kept v) (kept w)) (λ lines v. FirstReads scheme reads lines (kept v))
      (λ v. writes (kept v) ∷ [])
  first_laws kept laws =
      record {
        same_refl = λ v. laws.same_refl (kept v);
        same_sym = λ v w. laws.same_sym (kept v) (kept w);
        same_trans = λ u v w. laws.same_trans (kept u) (kept v) (kept w);
        reads_same =
            λ lines v w e h.
            record {
              line = h.line;
              first = h.first;
              named = h.named;
              read = laws.reads_same h.line (kept v) (kept w) e h.read;
            };
        writes_same = λ v w e. ap (λ (line : Line). line ∷ []) (laws.writes_same (kept v) (kept w) e);
        reads_once =
            λ lines v w h k.
            let one : k.line ≡ h.line = cc (h.first, k.first) in
            let read = subst (λ (line : Line). reads line (kept w)) one k.read in
            laws.reads_once h.line (kept v) (kept w) h.read read;
        reads_back =
            λ lines v h.
            record {
              line = writes (kept v);
              first = refl;
              named = laws.keeps_scheme h.line (kept v) h.named h.read;
              read = laws.reads_back h.line (kept v) h.named h.read;
            };
      }
