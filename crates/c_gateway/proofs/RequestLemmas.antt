-- The authority of a target.
use Rattle.std.{proofs.Common.{◌≡◌, Option, Some, None, ap, option_map, Bor}, specs.Option.option_copied}
use Rattle.http_header.specs.FieldValue.{FieldValue}

-- the bytes of a value that is borrowed
pub bytes_copied : (borrowed : Option (Bor FieldValue)) (value : Option FieldValue) → option_copied borrowed ≡ value
    → option_map (λ (v : Bor FieldValue). v.now.bytes) borrowed ≡ option_map (λ (v : FieldValue). v.bytes) value
bytes_copied None value same = ap (option_map (λ (v : FieldValue). v.bytes)) same
bytes_copied (Some borrowed) value same = ap (option_map (λ (v : FieldValue). v.bytes)) same
