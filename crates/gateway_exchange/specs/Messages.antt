-- Messages as `http1` takes them (RFC 9112, section 6).
use Rattle.std.specs.Prelude.{ℕ, ◌==◌, if◌then◌else◌}
use Rattle.http1.specs.declared.conn.BodySize.{BodySize}
use Rattle.http1.specs.declared.conn.BodySize.TheVariants as Size
use Rattle.gateway_messages.specs.declared.framing.Framing.{Framing}
use Rattle.gateway_messages.specs.declared.framing.Framing.TheVariants as Framed
use Rattle.gateway_messages.specs.declared.protocol.Protocol.{Protocol, TheVariants.{Http10, Http11}}
use Rattle.gateway_messages.specs.declared.response.ContentFraming.{ContentFraming}
use Rattle.gateway_messages.specs.declared.response.ContentFraming.TheVariants as Ends

abbrev pub protocol_of : ℕ → Protocol
protocol_of minor = if minor == 0 then Http10 else Http11

-- what is known of the size of a request's content, once the fields state it
abbrev pub request_size : Framing → BodySize
request_size Framed.Unstated = Size.Empty
request_size (Framed.Length len) = Size.Known len
request_size Framed.Chunked = Size.Unknown

-- and of a response's
abbrev pub response_size : ContentFraming → BodySize
response_size Ends.Tunnel = Size.Empty
response_size Ends.Absent = Size.Empty
response_size (Ends.Length len) = Size.Known len
response_size Ends.Chunked = Size.Unknown
response_size Ends.UntilClose = Size.Unknown
