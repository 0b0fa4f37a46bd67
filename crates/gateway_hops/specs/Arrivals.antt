-- How a request arrived at a gateway.
use Rattle.{std.specs.Prelude.{Bool, Option, option_map, codes}, headers.specs.Lines.Line}
use Rattle.gateway_hops.specs.declared.arrival.{Arrival.Arrival, Scheme.{Scheme, TheVariants.{Http, Https}}}
use Rattle.gateway_hops.specs.declared.node.Node.{Node}

abbrev pub scheme_text : Scheme → Line
scheme_text Http = codes "http"
scheme_text Https = codes "https"

-- the parts of an `Arrival`
pub record ArrivalParts : Type 0 where
  pub client : Node
  pub interface : Option Node
  pub host : Option Line
  pub scheme : Scheme
  pub is_trusted : Bool

abbrev pub arrival_parts : Arrival → ArrivalParts
arrival_parts arrival =
    record {
      client = arrival.client.now;
      interface = option_map (λ node. node.now) arrival.interface;
      host = option_map (λ value. value.now.bytes) arrival.host;
      scheme = arrival.scheme;
      is_trusted = arrival.is_trusted;
    }
