-- How a request arrived, and what is known of the next connection, as a caller hands it in.
use Rattle.std.specs.Prelude.{◌⊎◌, Bool, Option, Some, None, Result, Ok, Err, codes, if◌then◌else◌}
use Rattle.{headers.specs.{LineMap.LineMap, Lines.{Line, first_line}}, gateway_hops.specs.Arrivals.ArrivalParts}
use Rattle.gateway_hops.specs.declared.arrival.Scheme.{Scheme, TheVariants.{Http, Https}}
use Rattle.gateway_hops.specs.declared.fields.{Forwarding.Forwarding, Received.TheVariants.KeptFromTrusted}
use Rattle.gateway_hops.specs.{Connections.ConnectionParts, Sent.Hop}
use Rattle.{gateway_messages.specs.declared.protocol.Protocol.Protocol, c_gateway.specs.Nodes.IsNodeOf}
use Rattle.c_gateway.specs.{Nodes.IsOptionalNodeOf, declared.hop.{HopOptions.HopOptions, Nodes.Nodes}}
use Rattle.c_parts.specs.declared.status.Failure.{Failure}

-- the client and the node at which it was received
abbrev pub AreNodesOf : HopOptions → Result Nodes Failure → Type 0
AreNodesOf options (Ok nodes) =
    IsNodeOf options.client.now options.client_port (Ok nodes.client)
    × IsOptionalNodeOf options.interface.now options.interface_port (Ok nodes.interface)
AreNodesOf options (Err failure) =
    IsNodeOf options.client.now options.client_port (Err failure)
    ⊎ IsOptionalNodeOf options.interface.now options.interface_port (Err failure)

-- no Upgrade is offered: a gateway of this library forwards no 101
abbrev pub connection_of : HopOptions → ConnectionParts
connection_of options =
    record {
      closes = options.closes;
      accepts_trailers = options.accepts_trailers;
      upgrade = None;
    }

-- what was received of earlier gateways is kept exactly if the client is trusted
abbrev pub forwarding_of : HopOptions → Forwarding
forwarding_of options =
    record {
      received = KeptFromTrusted;
      writes_forwarded = options.writes_forwarded;
      writes_x_forwarded = options.writes_x_forwarded;
    }

abbrev pub scheme_of : Bool → Scheme
scheme_of is_secure = if is_secure then Https else Http

-- the host to which the request came: that of a target in absolute-form, which takes the place of Host (RFC 9112,
-- section 3.2.2), else that of Host
abbrev pub host_of : Option Line → LineMap → Option Line
host_of (Some authority) fields = Some authority
host_of None fields = first_line (fields (codes "host"))

-- that host, if it is told
abbrev pub told_host : Bool → Option Line → LineMap → Option Line
told_host tells_host authority fields = if tells_host then host_of authority fields else None

abbrev pub arrival_of : HopOptions → Nodes → Option Line → LineMap → ArrivalParts
arrival_of options nodes authority fields =
    record {
      client = nodes.client;
      interface = nodes.interface;
      host = told_host options.tells_host authority fields;
      scheme = scheme_of options.is_secure;
      is_trusted = options.is_trusted;
    }

-- what the gateway knows of the two connections of a request with this authority and these fields
abbrev pub hop_of : HopOptions → Nodes → Protocol → Option Line → LineMap → Hop
hop_of options nodes server authority fields =
    record {
      server = server;
      connection = connection_of options;
      forwarding = forwarding_of options;
      arrival = arrival_of options nodes authority fields;
    }
