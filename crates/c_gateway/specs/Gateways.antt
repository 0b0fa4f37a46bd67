-- A gateway, as a caller hands it in.
use Rattle.std.specs.Prelude.{◌≡◌, ◌⊎◌, ℕ, List, Result, Ok, Err}
use Rattle.{http_header.specs.Token.IsToken, gateway_messages.specs.declared.gateway.Gateway.Gateway}
use Rattle.c_gateway.specs.{Names.AreNamesOf, declared.gateway.GatewayOptions.GatewayOptions}
use Rattle.c_parts.specs.declared.status.Failure.{Failure, TheVariants.{Refused, Memory, Absent, TooLarge}}

-- the name in Via; `Refused` only if the text is no token
abbrev pub IsPseudonymOf : List ℕ → Result (List ℕ) Failure → Type 0
IsPseudonymOf text (Ok pseudonym) = IsToken text × (pseudonym ≡ text)
IsPseudonymOf text (Err Refused) = ¬ (IsToken text)
IsPseudonymOf text (Err Memory) = IsToken text
IsPseudonymOf text (Err Absent) = ⊥
IsPseudonymOf text (Err TooLarge) = ⊥

-- the gateway of this name, with these protected fields and settings
abbrev pub IsGatewayOf : GatewayOptions → Result Gateway Failure → Type 0
IsGatewayOf options (Ok gateway) =
    IsPseudonymOf options.pseudonym.now (Ok gateway.pseudonym)
    × AreNamesOf options.protected.now (Ok gateway.protected)
    × (gateway.consumes_credentials ≡ options.consumes_credentials)
    × (gateway.passes_underscores ≡ options.passes_underscores)
IsGatewayOf options (Err failure) =
    IsPseudonymOf options.pseudonym.now (Err failure) ⊎ AreNamesOf options.protected.now (Err failure)
