-- A file has one list of contents.
use Rattle.std.proofs.Common.{◌≡◌, ℕ, Bool, true, false, List, [], ◌∷◌, ◌++◌, refl, sym, ap, ◌∙◌, inl, inr}
use Rattle.server_files.{specs.Codings.coding_suffix, specs.declared.coding.Coding.TheVariants.{Identity, Brotli, Gzip}}
use Rattle.server_service.specs.Representations.{AreContents, AreOffers, HasEntryAt, offered, represented}
use Rattle.server_service.{specs.declared.file.Entry.Entry, specs.declared.file.File.File}

module _ (look : List ℕ → Entry) where
  abbrev Has : List ℕ → Entry → Type 0
  Has path entry = entry ≡ look path

  stands_once : (path : List ℕ) (e f : Entry) → HasEntryAt Has path e → HasEntryAt Has path f → e ≡ f
  stands_once path e f x y = elim x [
    | inl h ↦ elim y [ inl k ↦ h.1 ∙ sym k.1 | inr k ↦ let no = h.0 in let yes = k.0 in absurd (cc (no, yes)) ]
    | inr h ↦ elim y [ inl k ↦ let no = h.0 in let yes = k.0 in absurd (cc (no, yes)) | inr k ↦ h.1 ∙ sym k.1 ]
  ]

  offers_once : (path : List ℕ) (file : File) (a b : List File) → AreOffers Has path file a → AreOffers Has path file b
      → a ≡ b
  offers_once path file a b h k =
      let brotli = stands_once (path ++ coding_suffix Brotli) h.brotli k.brotli h.has_brotli k.has_brotli in
      let gzip = stands_once (path ++ coding_suffix Gzip) h.gzip k.gzip h.has_gzip k.has_gzip in
      h.are
      ∙ ap (λ (e : Entry). (represented file.media_type Identity file ∷ offered file.media_type Brotli e)
      ++ offered file.media_type Gzip h.gzip) brotli
      ∙ ap (λ (e : Entry). (represented file.media_type Identity file ∷ offered file.media_type Brotli k.brotli)
      ++ offered file.media_type Gzip e) gzip
      ∙ sym k.are

  pub contents_once : (negotiates : Bool) (path : List ℕ) (file : File) (a b : List File)
      → AreContents negotiates Has path file a → AreContents negotiates Has path file b → a ≡ b
  contents_once false path file a b h k = h ∙ sym k
  contents_once true path file a b h k = offers_once path file a b h k

-- the first content is the file's own
pub contents_own : (negotiates : Bool) (has : List ℕ → Entry → Type 0) (path : List ℕ) (file : File) (files : List File)
    → AreContents negotiates has path file files
    → (own : File) × (others : List File) × (files ≡ own ∷ others) × (own.source ≡ file.source)
contents_own false has path file files h = (file, [], h, refl)
contents_own true has path file files h = (
  represented file.media_type Identity file,
  offered file.media_type Brotli h.brotli ++ offered file.media_type Gzip h.gzip,
  h.are,
  refl,
)
