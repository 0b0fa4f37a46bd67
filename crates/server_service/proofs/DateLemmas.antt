-- Without a clock a content has its own date.
use Rattle.std.proofs.Common.{◌≡◌, ◌≤◌, ℕ, zero, suc, List, [], ◌∷◌, Option, Some, None, ap, refl, max, min, arith}
use Rattle.std.{specs.List.fold, specs.Option.{option_and_then, unwrap_or}, specs.Prelude.slice_get}
use Rattle.decide_preconditions.specs.Fields.{not_after}
use Rattle.server_service.{specs.Answer.{clock, later}, specs.declared.file.File.File}

abbrev seconds : File → ℕ
seconds file = unwrap_or file.modified 0

fold-later_bounds : (files : List File) (time : ℕ) → time ≤ fold later time files
fold-later_bounds [] time = omega arith
fold-later_bounds (file ∷ files) time =
    let next : max time (seconds file) ≤ fold later (later time file) files =
    fold-later_bounds files (later time file) in
    omega (arith, next)

none_is_later : (files : List File) (time place : ℕ) (file : File) → slice_get files place ≡ Some file
    → seconds file ≤ fold later time files
none_is_later [] time place file is = absurd (cc is)
none_is_later (first ∷ files) time zero file is =
    let next : max time (seconds first) ≤ fold later (later time first) files =
    fold-later_bounds files (later time first) in
    let same : seconds first ≡ seconds file =
    ap (λ (f : Option File). unwrap_or (option_and_then (λ (it : File). it.modified) f) 0) is in
    omega (arith, next, same)
none_is_later (first ∷ files) time (suc place) file is = none_is_later files (later time first) place file is

within : (latest : ℕ) (modified : Option ℕ) → unwrap_or modified 0 ≤ latest → not_after latest modified ≡ modified
within latest None bound = refl
within latest (Some time) bound = let least : min latest time ≡ time = omega (arith, bound) in ap Some least

pub own_date : (files : List File) (place : ℕ) (file : File) → slice_get files place ≡ Some file
    → not_after (clock None files) file.modified ≡ file.modified
own_date files place file is = within (fold later 0 files) file.modified (none_is_later files 0 place file is)
