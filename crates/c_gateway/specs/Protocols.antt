-- Versions of HTTP, as a caller hands them in.
use Rattle.std.specs.Prelude.{◌≡◌, ℕ, ◌==◌, Option, Some, None, Result, Ok, Err, if◌then◌else◌}
use Rattle.gateway_messages.specs.declared.protocol.Protocol.{Protocol, TheVariants.{Http10, Http11}}
use Rattle.c_parts.specs.declared.status.Failure.{Failure, TheVariants.Refused}

-- the version that a number says, as 11 says HTTP/1.1
abbrev pub protocol_of : ℕ → Option Protocol
protocol_of number = if number == 10 then Some Http10 else (if number == 11 then Some Http11 else None)

abbrev pub IsProtocolOf : ℕ → Result Protocol Failure → Type 0
IsProtocolOf number (Ok protocol) = protocol_of number ≡ Some protocol
IsProtocolOf number (Err failure) = (failure ≡ Refused) × (protocol_of number ≡ None)
