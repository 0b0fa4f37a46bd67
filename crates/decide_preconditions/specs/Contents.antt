-- The content of a representation, and which ranges of it are sent.
use Rattle.std.specs.Prelude.{ℕ, Bool, ◌&&◌, Option, Some, None, is_some}
use Rattle.decide_preconditions.specs.{Limits.usual_limits, declared.content.Content.Content}
use Rattle.decide_preconditions.specs.declared.limits.RangeLimits.{RangeLimits}

-- ranges of it are sent: the server sends some, and the length is known
abbrev pub is_divisible : Content → Bool
is_divisible content = is_some content.len && is_some content.ranges

-- the length of which ranges are taken; Range is ignored if it is 0
abbrev pub len_of : Option ℕ → Option RangeLimits → ℕ
len_of (Some len) (Some limits) = len
len_of (Some len) None = 0
len_of None ranges = 0

abbrev pub divisible_len : Content → ℕ
divisible_len content = len_of content.len content.ranges

abbrev pub limits_or_usual : Option RangeLimits → RangeLimits
limits_or_usual (Some limits) = limits
limits_or_usual None = usual_limits

abbrev pub limits_of : Content → RangeLimits
limits_of content = limits_or_usual content.ranges
