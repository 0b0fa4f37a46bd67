-- Why a message isn't forwarded, as a caller is told.
use Rattle.{std.specs.Prelude.ℕ, gateway_messages.specs.declared.rejection.Rejection.Rejection}

-- the place of each reason in the list of typed_headers.h
abbrev pub reason_number : Rejection → ℕ
reason_number Rejection.LengthAndCoding = 1
reason_number Rejection.InvalidLength = 2
reason_number Rejection.UnknownCoding = 3
reason_number Rejection.LastCodingNotChunked = 4
reason_number Rejection.CodingInHttp10 = 5
reason_number Rejection.InvalidOption = 6
reason_number Rejection.ProtectedOption = 7
reason_number Rejection.InvalidHost = 8
reason_number Rejection.InvalidHops = 9
reason_number Rejection.Loop = 10
reason_number Rejection.UnknownExpectation = 11
reason_number Rejection.SwitchedProtocols = 12

-- that of a request in chunks to a server of HTTP/1.0
abbrev pub length_required : ℕ
length_required = 13
