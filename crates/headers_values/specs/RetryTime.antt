-- When to send the request again (RFC 9110, section 10.2.3), and how a field line encodes it.
use Rattle.std.{specs.Prelude.{ℕ, Option, Some, None, option_map, decimal}, specs.declared.time.Duration.Duration}
use Rattle.headers_syntax.{specs.Date.{date, fixdate}, specs.Durations.LastsSeconds, specs.Lines.Line}
use Rattle.headers_syntax.specs.Number.{number}

-- after this many seconds, or from that time on, in seconds since 1970
pub data RetryTime : Type 0 where
  Delay : ℕ → RetryTime
  Until : ℕ → RetryTime

-- the time is a delay that lasts as long
abbrev pub IsDelay : Duration → RetryTime → Type 0
IsDelay duration (Delay secs) = LastsSeconds duration secs
IsDelay duration (Until secs) = ⊥

-- a number is a delay, and anything else must be a date
abbrev pub number_else_date : Option ℕ → Option ℕ → Option RetryTime
number_else_date (Some secs) date = Some (Delay secs)
number_else_date None date = option_map Until date

abbrev pub retry_time : Line → Option RetryTime
retry_time line = number_else_date (number line) (date line)

-- a delay is encoded as a number, and a date as IMF-fixdate
abbrev pub retry_line : RetryTime → Line
retry_line (Delay secs) = decimal secs
retry_line (Until secs) = fixdate secs
