-- The numbers of include/typed_headers.h: events, phases, and what to wait for.
use Rattle.std.specs.Prelude.{ℕ, ◌&&◌, ◌==◌, false, length}
use Rattle.gateway_exchange.specs.{Steps.{phase_of, wants_of}, Tunnels.tunnel_wants}
use Rattle.gateway_exchange.specs.declared.{connection.GatewayConnection.GatewayConnection, tunnel.Tunnel.Tunnel}
use Rattle.gateway_exchange.specs.declared.event.{GatewayEvent.GatewayEvent, ExchangePhase.ExchangePhase, Wants.Wants}
use Rattle.gateway_exchange.specs.declared.event.GatewayEvent.TheVariants as Tells
use Rattle.gateway_exchange.specs.declared.event.ExchangePhase.TheVariants as Does
use Rattle.c_gate.specs.declared.moving.GateFacts.{GateFacts}

abbrev pub event_number : GatewayEvent → ℕ
event_number Tells.Waits = 0
event_number Tells.Request = 1
event_number Tells.Response = 2
event_number Tells.Piece = 3
event_number Tells.Again = 4
event_number Tells.Exchanged = 5
event_number Tells.Tunnel = 6
event_number Tells.Closed = 7
event_number Tells.Aborted = 8

abbrev pub phase_number : ExchangePhase → ℕ
phase_number Does.Idle = 0
phase_number Does.Head = 1
phase_number Does.Asking = 2
phase_number Does.Content = 3
phase_number Does.Response = 4
phase_number Does.Passing = 5
phase_number Does.Giving = 6
phase_number Does.Draining = 7
phase_number Does.Over = 8

-- no piece, and nothing ends
abbrev pub facts_of : GatewayEvent → ExchangePhase → Wants → GateFacts
facts_of event phase wants = record {
  piece = 0;
  event = event_number event;
  phase = phase_number phase;
  client_input = wants.client_input;
  client_output = wants.client_output;
  origin_input = wants.origin_input;
  origin_output = wants.origin_output;
  ends_client = false;
  ends_origin = false;
}

-- how long the piece is, if the event is that one was passed to the client
abbrev pub piece_len : GatewayEvent → GatewayConnection → ℕ
piece_len Tells.Piece m = length m.piece
piece_len event m = 0

-- the event, and what the connection does and waits for after it
abbrev pub gate_facts : GatewayEvent → GatewayConnection → GateFacts
gate_facts event m = record (facts_of event (phase_of m) (wants_of m)) { piece = piece_len event m }

-- A tunnel always waits. A side gets nothing more once the other's input has ended and all of it was written.
abbrev pub tunnel_facts : Tunnel → GateFacts
tunnel_facts t = record (facts_of Tells.Waits Does.Over (tunnel_wants t)) {
  ends_client = t.origin_ended && (length t.to_client.items == 0);
  ends_origin = t.client_ended && (length t.to_origin.items == 0);
}
