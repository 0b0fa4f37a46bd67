-- Names of fields that lines are.
use Rattle.std.proofs.Common.{◌≡◌, ◌∙◌, ℕ, ◌+◌, ◌<◌, List, [], ◌∷◌, ◌++◌, All, length, map, take, get_or, sym, ap}
use Rattle.std.proofs.{Common.{subst, arith, Err}, lemmas.List.{get_or-map, length-map, map-append, take_more}}
use Rattle.std.proofs.lemmas.List.Elements.{All-append, All-cons, All-nil, All-weaker}
use Rattle.http_header.specs.{FieldName.IsFieldName, FieldValue.{FieldValue, IsFieldValue}}
use Rattle.http_header.proofs.TokenLemmas.{IsFieldValue-from_visible, IsVisibleAscii-from_token}
use Rattle.{headers.specs.Lines.{Line, lines_of}, c_parts.specs.{FieldText.IsNameOf, declared.status.Failure.Failure}}
use Rattle.c_parts.specs.declared.status.Failure.TheVariants.{Refused, Memory, Absent, TooLarge}
use Rattle.c_gateway.specs.Names.{ReadsNames}

IsFieldValue-field_name : (line : Line) → IsFieldName line → IsFieldValue line
IsFieldValue-field_name line name = IsFieldValue-from_visible line (IsVisibleAscii-from_token line name.0)

-- names are header values
pub All-values : (lines : List Line) → All IsFieldName lines → All IsFieldValue lines
All-values lines names = All-weaker IsFieldName IsFieldValue IsFieldValue-field_name lines names

-- the lines up to the next one
pub lines_of-more : (lines : List FieldValue) (i : ℕ) (line : FieldValue) → i < length lines
    → line ≡ get_or lines i line → lines_of (take (i + 1) lines) ≡ lines_of (take i lines) ++ line.bytes ∷ []
lines_of-more lines i line below is =
    let next : take (i + 1) lines ≡ take i lines ++ line ∷ [] =
    take_more lines i line below ∙ ap (λ (v : FieldValue). take i lines ++ v ∷ []) (sym is) in
    ap lines_of next ∙ map-append (λ (v : FieldValue). v.bytes) (take i lines) (line ∷ [])

-- one name more
pub names-more : (f : Line → List ℕ) (before after : List Line) (line : Line) (names : List (List ℕ))
    → after ≡ before ++ line ∷ [] → names ≡ map f before → names ++ f line ∷ [] ≡ map f after
names-more f before after line names next same = ap (λ (all : List (List ℕ)). all ++ f line ∷ []) same
    ∙ sym (map-append f before (line ∷ []))
    ∙ ap (map f) (sym next)

pub All-more : (P : Line → Type 0) (before after : List Line) (line : Line) → after ≡ before ++ line ∷ [] → All P before
    → P line → All P after
All-more P before after line next all one =
    subst (All P) (sym next) (All-append P before (line ∷ []) all (All-cons P line [] one (All-nil P)))

module _ (lines : List FieldValue) (i : ℕ) (line : FieldValue) (below : i < length lines)
    (is : line ≡ get_or lines i line)
  where
    length_lines : length (lines_of lines) ≡ length lines
    length_lines = length-map lines (λ (v : FieldValue). v.bytes)

    -- each of some names
    name_at : All IsFieldName (lines_of lines) → IsFieldName line.bytes
    name_at all =
        let at : get_or (lines_of lines) i line.bytes ≡ line.bytes =
        get_or-map (λ (v : FieldValue). v.bytes) lines i line line.bytes below
        ∙ ap (λ (v : FieldValue). v.bytes) (sym is) in
        subst IsFieldName at (all i line.bytes (rw length_lines below))

    -- what a failure to read one line says of all
    pub ReadsNames-fails : (failure : Failure) → IsNameOf line.bytes (Err failure)
        → ReadsNames (lines_of lines) (Err failure)
    ReadsNames-fails Refused none = λ all. none (name_at all)
    ReadsNames-fails Memory none = rw length_lines (omega (arith, below))
    ReadsNames-fails Absent none = none
    ReadsNames-fails TooLarge none = none
