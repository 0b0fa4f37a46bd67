-- A `RetryAfter` as a contract sees it.
use Rattle.std.specs.Prelude.{◌≡◌, refl}
use Rattle.headers_values.{specs.RetryTime.{RetryTime, Delay, Until}, specs.declared.retry_after.After.After}
use Rattle.headers_values.specs.declared.retry_after.After.TheVariants as after
use Rattle.headers_values.specs.declared.retry_after.RetryAfter.TheInside.{Inside}

abbrev pub time_of : After → RetryTime
time_of (after.Date secs) = Until secs
time_of (after.Delay secs) = Delay secs

abbrev pub after_of : RetryTime → After
after_of (Until secs) = after.Date secs
after_of (Delay secs) = after.Delay secs

after_again : (a : After) → after_of (time_of a) ≡ a
after_again (after.Date secs) = refl
after_again (after.Delay secs) = refl

pub after_of-time_of : (r : Inside) → record { after = after_of (time_of r.after) } ≡ r
after_of-time_of r = rw (after_again r.after) refl
