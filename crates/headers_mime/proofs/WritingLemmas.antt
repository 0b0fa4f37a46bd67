-- What is written while a text is read.
use Rattle.headers_mime.{proofs.ReadingLemmas.segment-from_read, specs.MediaType.{Parameter, canonical_parameter}}
use Rattle.headers_mime.specs.{MediaType.{parameters_text, slash}, MediaTypeReading.{GivesRead, WritesBehind}}
use Rattle.headers_mime.specs.MediaTypeReading.{canonical_of, canonical_rest, optional_canonical, read_essence}
use Rattle.headers_mime.specs.MediaTypeReading.{read_media, read_parameters, read_segment, read_segments}
use Rattle.headers_syntax.specs.declared.error.Refused.{Refused, TheVariants.{Invalid, Memory}}
use Rattle.{http_header.specs.Token.lowercase, std.proofs.Common.{List, None, Option, Some, [], ap, append-nil}}
use Rattle.std.proofs.Common.{append_assoc, arith, length, length-append, map, refl, suc, zero, ℕ, ◌++◌, ◌<◌, ◌∙◌, ◌∷◌}
use Rattle.std.{proofs.Common.{◌≡◌, ◌≤◌}, specs.{List.cons_option, Option.option_and_then, Prelude.{Err, option_map}}}

-- a segment takes its semicolon at least
pub segment-shrinks : (s : List ℕ) (t : Option Parameter × List ℕ) → read_segment s ≡ Some t → length t.1 < length s
segment-shrinks s t h = grind (arith, segment-from_read s t h, length-append {A = ℕ})

-- enough segments are as good as more
then_same : {A B : Type 0} (f g : A → Option B) (o : Option A) → ((x : A) → o ≡ Some x → f x ≡ g x)
    → option_and_then f o ≡ option_and_then g o
then_same f g None same = refl
then_same f g (Some x) same = same x refl

enough : (n m : ℕ) (s : List ℕ) → length s ≤ n → length s ≤ m → read_segments n s ≡ read_segments m s
enough n m [] a b = refl
enough zero m (x ∷ s) a b = absurd (omega arith)
enough (suc n) zero (x ∷ s) a b = absurd (omega arith)
enough (suc n) (suc m) (x ∷ s) a b = then_same _ _ (read_segment (x ∷ s)) (λ t e. let l = segment-shrinks (x ∷ s) t e in
    ap (option_map (cons_option t.0)) (enough n m t.1 (omega (arith, l)) (omega (arith, l))))

-- the end, and a text that is no segment
pub canonical_rest-none : (s : List ℕ) → 0 < length s → read_segment s ≡ None → canonical_rest s ≡ None
unfolding read_parameters
canonical_rest-none s l e = grind arith

optional_first : (o : Option Parameter) (ps : List Parameter) → parameters_text
    (map canonical_parameter (cons_option o ps)) ≡ optional_canonical o ++ parameters_text (map canonical_parameter ps)
optional_first None ps = refl
optional_first (Some p) ps = simp (append_assoc, append-nil)

-- a reading that is changed twice
pub option_map-option_map : {A B C : Type 0} (g : B → C) (f : A → B) (o : Option A)
    → option_map g (option_map f o) ≡ option_map (λ (x : A). g (f x)) o
option_map-option_map g f None = refl
option_map-option_map g f (Some x) = refl

-- a segment, and the rest
pub canonical_rest-some : (s : List ℕ) (t : Option Parameter × List ℕ) → 0 < length s → read_segment s ≡ Some t
    → canonical_rest s ≡ option_map (λ (r : List ℕ). optional_canonical t.0 ++ r) (canonical_rest t.1)
unfolding read_parameters
canonical_rest-some [] t l e = absurd (omega arith)
canonical_rest-some (b ∷ s) t l e = let shorter = segment-shrinks (b ∷ s) t e in
    let fuel = enough (length s) (length t.1) t.1 (omega (arith, shorter)) (omega arith) in
    rw (e, fuel) (simp (option_map-option_map, ← optional_first t.0))

pub canonical_of-none : (s : List ℕ) → read_essence s ≡ None → canonical_of s ≡ None
unfolding read_media
canonical_of-none s e = rw e refl

-- type and subtype as they are pushed, and the rest after them
pub canonical_of-pieces : (s top_level subtype rest none one two three : List ℕ) → read_essence s ≡ Some
    (top_level, subtype, rest) → none ≡ [] → one ≡ none ++ lowercase top_level → two ≡ one ++ slash ∷ [] → three ≡ two
    ++ lowercase subtype → canonical_of s ≡ option_map (λ (t : List ℕ). three ++ t) (canonical_rest rest)
unfolding read_media
canonical_of-pieces s top_level subtype rest none one two three h a b c d =
    rw (h, d, c, b, a) (simp (option_map-option_map, append_assoc))

-- a loop that is done: nothing was read, or all
pub none_behind : (old new : List ℕ) (whole rest : Option (List ℕ)) → option_map (λ (t : List ℕ). old ++ t) whole
    ≡ option_map (λ (t : List ℕ). new ++ t) rest → rest ≡ None → whole ≡ None
none_behind old new whole rest e none = grind arith

pub canonical_rest-end : (s new : List ℕ) → length s ≡ 0
    → option_map (λ (t : List ℕ). new ++ t) (canonical_rest s) ≡ Some new
unfolding read_parameters
canonical_rest-end s new e = grind (arith, append-nil {A = ℕ})

-- a refusal of a writer is one of its reader
pub refused_behind : {T E : Type 0} (shown : T → List ℕ) (old new : List ℕ) (whole rest : Option (List ℕ))
    (refused : Refused E) → whole ≡ option_map (λ (t : List ℕ). old ++ t) rest → WritesBehind old rest new (Err refused)
    → GivesRead shown whole (Err refused)
refused_behind shown old new whole rest (Invalid x) e none = e ∙ ap (option_map (λ (t : List ℕ). old ++ t)) none
refused_behind shown old new whole rest (Memory x) e none = tt
