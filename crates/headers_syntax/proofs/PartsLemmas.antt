-- The last of what the parts of a line give, part by part.
use Rattle.{headers_syntax.specs.{Lines.Line, Parts.{parts, parts_of_lines}}, std.proofs.Common.{List, None, Option}}
use Rattle.std.proofs.{Common.{Some, [], refl, ℕ, ◌++◌, ◌∷◌, ◌≡◌}, lemmas.{Grind.flat_map-append, List.append-nil}}
use Rattle.std.{proofs.lemmas.List.Elements.filter_map-append, specs.List.{filter_map, last_or}}

pub last_or-append : {A : Type 0} (o : Option A) (xs ys : List A) → last_or o (xs ++ ys) ≡ last_or (last_or o xs) ys
last_or-append o [] ys = refl
last_or-append o (x ∷ xs) ys = last_or-append (Some x) xs ys

-- a line more
pub last_more : {A : Type 0} (f : List ℕ → Option A) (c : ℕ) (last next : Option A) (lines : List Line) (line : Line)
    → next ≡ last_or last (filter_map f (parts c line)) → last ≡ last_or None (filter_map f (parts_of_lines c lines))
    → next ≡ last_or None (filter_map f (parts_of_lines c (lines ++ line ∷ [])))
last_more f c last next lines line e h = simp (e, h, flat_map-append, append-nil, filter_map-append, last_or-append)
