-- What a contract sees of an `IfRange`.
use Rattle.std.specs.Prelude.{◌≡◌, refl}
use Rattle.headers_conditional.{specs.Validator.{Validator, Tag, Second}, specs.declared.if_range.Named.Named}
use Rattle.headers_conditional.specs.declared.if_range.Named.TheVariants as named
use Rattle.headers_conditional.specs.declared.if_range.IfRange.TheInside.{Inside}

abbrev pub validator_of : Named → Validator
validator_of (named.Tag value) = Tag value
validator_of (named.Date secs) = Second secs

abbrev pub named_of : Validator → Named
named_of (Tag value) = named.Tag value
named_of (Second secs) = named.Date secs

named_again : (n : Named) → named_of (validator_of n) ≡ n
named_again (named.Tag value) = refl
named_again (named.Date secs) = refl

pub named_of-validator_of : (r : Inside) → record { named = named_of (validator_of r.named) } ≡ r
named_of-validator_of r = rw (named_again r.named) refl
