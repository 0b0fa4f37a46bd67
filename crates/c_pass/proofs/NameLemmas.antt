-- The names of fields that lines are, one each.
use Rattle.std.proofs.Common.{◌≡◌, ◌∙◌, ℕ, zero, suc, ◌+◌, ◌<◌, List, [], ◌∷◌, ◌++◌, All, length, take, get_or, refl}
use Rattle.std.proofs.{Common.{sym, ap, subst, arith, Err}, lemmas.List.{map-append, take_more, Elements.All-get_or}}
use Rattle.std.{proofs.lemmas.List.Elements.{All-push, All-weaker}, specs.Prelude.map}
use Rattle.http_header.specs.{FieldName.IsFieldName, FieldValue.{FieldValue, IsFieldValue}, Token.lowercase}
use Rattle.http_header.proofs.TokenLemmas.{IsFieldValue-from_visible, IsVisibleAscii-from_token}
use Rattle.{headers.specs.{Lines.{Line, lines_of}, Typed.HasLine}, c_parts.specs.FieldText.{IsNameOf, field_lines}}
use Rattle.c_parts.specs.declared.status.Failure.{Failure, TheVariants.{Refused, Memory, Absent, TooLarge}}
use Rattle.c_pass.specs.Names.{AreNames, IsNamesOf}

-- these are the names that the lines are
abbrev pub IsReadAs : List Line → List (List ℕ) → Type 0
IsReadAs lines names = All IsFieldName lines × (names ≡ map lowercase lines)

-- a text of which a line is no header value isn't one of names
pub names_values : (text : List ℕ) → ¬ (All IsFieldValue (field_lines text)) → ¬ (AreNames text)
names_values text bad names = bad (All-weaker IsFieldName IsFieldValue
    (λ line name. IsFieldValue-from_visible line (IsVisibleAscii-from_token line name.0)) (field_lines text) names)

-- one line more is a name
pub names-more : (lines : List FieldValue) (i : ℕ) (line : FieldValue) (names : List (List ℕ)) (name : List ℕ)
    → i < length lines → line ≡ get_or lines i line → IsReadAs (lines_of (take i lines)) names → IsFieldName line.bytes
    × (name ≡ lowercase line.bytes) → IsReadAs (lines_of (take (i + 1) lines)) (names ++ name ∷ [])
names-more lines i line names name below is all one =
    let next : take (i + 1) lines ≡ take i lines ++ line ∷ [] =
    take_more lines i line below ∙ ap (λ (v : FieldValue). take i lines ++ v ∷ []) (sym is) in
    let read : lines_of (take (i + 1) lines) ≡ lines_of (take i lines) ++ line.bytes ∷ [] =
    ap lines_of next ∙ map-append (λ (v : FieldValue). v.bytes) (take i lines) (line ∷ []) in
    let lower : map lowercase (lines_of (take i lines) ++ line.bytes ∷ [])
    ≡ map lowercase (lines_of (take i lines)) ++ lowercase line.bytes ∷ [] =
    map-append lowercase (lines_of (take i lines)) (line.bytes ∷ []) in
    let named : names ++ name ∷ [] ≡ map lowercase (lines_of (take i lines)) ++ lowercase line.bytes ∷ [] =
    ap (λ (ns : List (List ℕ)). ns ++ name ∷ []) all.1
    ∙ ap (λ (n : List ℕ). map lowercase (lines_of (take i lines)) ++ n ∷ []) one.1 in
    subst (λ (ls : List Line). IsReadAs ls (names ++ name ∷ [])) (sym read)
    (All-push IsFieldName (lines_of (take i lines)) line.bytes all.0 one.0, named ∙ sym lower)

-- the line at a place
line-at : (lines : List FieldValue) (i : ℕ) (line : FieldValue) → i < length lines
    → (i < length (lines_of lines)) × (get_or (lines_of lines) i line.bytes ≡ (get_or lines i line).bytes)
line-at [] i line below = absurd (omega (arith, below))
line-at (first ∷ lines) zero line below = (omega arith, refl)
line-at (first ∷ lines) (suc i) line below =
    let rest = line-at lines i line (omega (arith, below)) in (omega (arith, rest.0), rest.1)

-- lines of which one was read
pub names-line : (lines : List FieldValue) (i : ℕ) (line : FieldValue) → i < length lines → HasLine (lines_of lines)
names-line lines i line below = let at = line-at lines i line below in omega (arith, at.0)

-- what a failure to read the name of one line says of all
pub names-fails : (lines : List FieldValue) (i : ℕ) (line : FieldValue) (failure : Failure) → i < length lines
    → line ≡ get_or lines i line → IsNameOf line.bytes (Err failure) → IsNamesOf (lines_of lines) (Err failure)
names-fails lines i line Refused below is none = λ names.
    let at = line-at lines i line below in
    none (subst IsFieldName (at.1 ∙ ap (λ (v : FieldValue). v.bytes) (sym is))
    (All-get_or IsFieldName (lines_of lines) i line.bytes at.0 names))
names-fails lines i line Memory below is h = names-line lines i line below
names-fails lines i line Absent below is h = h
names-fails lines i line TooLarge below is h = h
