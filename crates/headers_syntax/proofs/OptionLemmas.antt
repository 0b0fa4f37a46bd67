-- What a value that was mapped, or read in two steps, came from.
use Rattle.std.{proofs.Common.{◌≡◌, Option, Some, None, refl}, specs.Prelude.option_map, specs.Option.option_and_then}

pub map_parts : {A B : Type 0} (f : A → B) (o : Option A) (y : B) → option_map f o ≡ Some y
    → (x : A) × (o ≡ Some x) × (f x ≡ y)
map_parts f None y h = absurd (cc h)
map_parts f (Some x) y h = (x, refl, cc h)

pub then_parts : {A B : Type 0} (f : A → Option B) (o : Option A) (y : B) → option_and_then f o ≡ Some y
    → (x : A) × (o ≡ Some x) × (f x ≡ Some y)
then_parts f None y h = absurd (cc h)
then_parts f (Some x) y h = (x, refl, h)
