-- Transport security and times to try again, as C sees them.
use Rattle.std.specs.Prelude.{◌≡◌}
use Rattle.headers.specs.RetryTime.{Delay, RetryTime as Time, Until}
use Rattle.headers.specs.StrictTransportSecurity.{TransportSecurity as Security}
use Rattle.{c_decisions.specs.Flags.flag_of, c_typed.specs.declared.policies.RetryTime.RetryTime}
use Rattle.c_typed.specs.declared.policies.TransportSecurity.{TransportSecurity}

abbrev pub ShowsSecurity : Security → TransportSecurity → Type 0
ShowsSecurity policy shown =
    (shown.max_age ≡ policy.max_age) × (shown.include_subdomains ≡ flag_of policy.include_subdomains)

abbrev pub retry_shown : Time → RetryTime
retry_shown (Delay seconds) = record { seconds = seconds; is_date = 0 }
retry_shown (Until second) = record { seconds = second; is_date = 1 }

abbrev pub ShowsRetryTime : Time → RetryTime → Type 0
ShowsRetryTime time shown = shown ≡ retry_shown time
