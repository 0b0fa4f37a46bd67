-- Limits on the parts of a response (RFC 9110, sections 14.2 and 15.3.7.2).
use Rattle.std.specs.Prelude.{ℕ, ◌*◌, Bool, ◌&&◌, ◌||◌, nat_lt, List, length}
use Rattle.decide_preconditions.specs.declared.{limits.RangeLimits.RangeLimits, part.Part.Part}

abbrev pub usual_limits : RangeLimits
usual_limits = record { gap = 80; head = 512; parts = 100 }

-- There are several parts, and more than the limits allow, or they cost more further bytes than a representation of
-- this length has.
abbrev pub are_too_many : RangeLimits → ℕ → List Part → Bool
are_too_many limits len parts =
    nat_lt 1 (length parts) && (nat_lt limits.parts (length parts) || nat_lt len (length parts * limits.head))
