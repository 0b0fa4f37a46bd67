-- Base64 with padding, in the standard alphabet (RFC 4648, section 4).
use Rattle.std.specs.Prelude.{ℕ, List}
use Rattle.base64.{specs.Engines.standard, specs.GeneralPurpose.encode_of}

unfoldable pub base64 : List ℕ → List ℕ
base64 bytes = encode_of standard bytes
