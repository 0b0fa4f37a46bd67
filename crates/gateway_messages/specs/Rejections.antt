-- Which status answers a rejected request, and what a rejection prints.
use Rattle.{std.specs.Prelude.{ℕ, List, codes}, gateway_messages.specs.declared.rejection.Rejection.Rejection}

abbrev pub status_of : Rejection → ℕ
status_of Rejection.LengthAndCoding = 400
status_of Rejection.InvalidLength = 400
status_of Rejection.UnknownCoding = 501
status_of Rejection.LastCodingNotChunked = 400
status_of Rejection.CodingInHttp10 = 400
status_of Rejection.InvalidOption = 400
status_of Rejection.ProtectedOption = 400
status_of Rejection.InvalidHost = 400
status_of Rejection.InvalidHops = 400
status_of Rejection.Loop = 508
status_of Rejection.UnknownExpectation = 417
status_of Rejection.SwitchedProtocols = 502

abbrev pub rejection_text : Rejection → List ℕ
rejection_text Rejection.LengthAndCoding = codes "both content-length and transfer-encoding"
rejection_text Rejection.InvalidLength = codes "invalid content-length"
rejection_text Rejection.UnknownCoding = codes "unknown transfer coding"
rejection_text Rejection.LastCodingNotChunked = codes "the last transfer coding isn't chunked"
rejection_text Rejection.CodingInHttp10 = codes "transfer-encoding in HTTP/1.0"
rejection_text Rejection.InvalidOption = codes "invalid connection"
rejection_text Rejection.ProtectedOption = codes "a connection option names a field of all recipients"
rejection_text Rejection.InvalidHost = codes "no valid host, or several"
rejection_text Rejection.InvalidHops = codes "invalid max-forwards"
rejection_text Rejection.Loop = codes "the request passed here before"
rejection_text Rejection.UnknownExpectation = codes "an expectation other than 100-continue"
rejection_text Rejection.SwitchedProtocols = codes "the server switched protocols unasked"
