-- Durations of whole seconds.
use Rattle.std.{specs.Prelude.{◌≡◌, ℕ, ◌*◌, ◌%◌}, specs.Duration.as_nanos, specs.declared.time.Duration.Duration}

-- it has no part of a second
abbrev pub IsWholeSeconds : Duration → Type 0
IsWholeSeconds d = as_nanos d % 1_000_000_000 ≡ 0

-- it lasts this many seconds, and no part of another
abbrev pub LastsSeconds : Duration → ℕ → Type 0
LastsSeconds d secs = as_nanos d ≡ secs * 1_000_000_000
