-- A tunnel, and every history of calls on it.
use Rattle.std.specs.Prelude.{◌≡◌, ℕ, ◌≤◌, ◌==◌, nat_lt, Bool, true, false, not, ◌&&◌, List, [], ◌++◌, length, drop}
use Rattle.std.specs.Prelude.{take, Option, Some, None}
use Rattle.gateway_connection.specs.declared.origin.OriginConnection.{OriginConnection}
use Rattle.gateway_exchange.specs.{Steps.output_of, declared.connection.GatewayConnection.GatewayConnection}
use Rattle.gateway_exchange.specs.declared.{event.Wants.Wants, tunnel.TheConstants.MOST_WAITING, tunnel.Tunnel.Tunnel}

-- ---- its begin

abbrev pub input_of : Option OriginConnection → List ℕ
input_of (Some origin) = origin.input.items
input_of None = []

abbrev pub ended_of : Option OriginConnection → Bool
ended_of (Some origin) = origin.ended
ended_of None = false

-- What waits for each side goes before what was received of the other and isn't used.
pub record Begins (m : GatewayConnection) (t : Tunnel) : Type 0 where
  pub to_client : t.to_client.items ≡ m.client.output.items ++ input_of m.origin
  pub to_origin : t.to_origin.items ≡ output_of m.origin ++ m.client.input.items
  pub client_ended : t.client_ended ≡ m.client.ended
  pub origin_ended : t.origin_ended ≡ ended_of m.origin

-- ---- its calls

pub record ReceivesClient (old : Tunnel) (bytes : List ℕ) (new : Tunnel) : Type 0 where
  pub to_origin : new.to_origin.items ≡ old.to_origin.items ++ bytes
  pub rest : new ≡ record old { to_origin = new.to_origin }

pub record ReceivesOrigin (old : Tunnel) (bytes : List ℕ) (new : Tunnel) : Type 0 where
  pub to_client : new.to_client.items ≡ old.to_client.items ++ bytes
  pub rest : new ≡ record old { to_client = new.to_client }

pub record WritesClient (old : Tunnel) (count : ℕ) (new : Tunnel) : Type 0 where
  pub to_client : new.to_client.items ≡ drop count old.to_client.items
  pub rest : new ≡ record old { to_client = new.to_client }

pub record WritesOrigin (old : Tunnel) (count : ℕ) (new : Tunnel) : Type 0 where
  pub to_origin : new.to_origin.items ≡ drop count old.to_origin.items
  pub rest : new ≡ record old { to_origin = new.to_origin }

-- a side is read while its input goes on, and less than 64 KiB wait for the other
abbrev pub tunnel_wants : Tunnel → Wants
tunnel_wants t = record {
  client_input = not t.client_ended && nat_lt (length t.to_origin.items) MOST_WAITING;
  client_output = not (length t.to_client.items == 0);
  origin_input = not t.origin_ended && nat_lt (length t.to_client.items) MOST_WAITING;
  origin_output = not (length t.to_origin.items == 0);
}

-- ---- every history

-- the bytes that were received of each side and written to each
pub record Past : Type 0 where
  pub from_client : List ℕ
  pub from_origin : List ℕ
  pub client_sent : List ℕ
  pub origin_sent : List ℕ

abbrev pub no_past : Past
no_past = record { from_client = []; from_origin = []; client_sent = []; origin_sent = [] }

-- calls led from one tunnel to another, and these bytes were received and written in them
pub data IsReached (first : Tunnel) : Tunnel → Past → Type 0 where
  Begun : IsReached first first no_past
  FromClient : (old new : Tunnel) (p : Past) (bytes : List ℕ) → IsReached first old p → ReceivesClient old bytes new
      → IsReached first new (record p { from_client = p.from_client ++ bytes })
  FromOrigin : (old new : Tunnel) (p : Past) (bytes : List ℕ) → IsReached first old p → ReceivesOrigin old bytes new
      → IsReached first new (record p { from_origin = p.from_origin ++ bytes })
  ToClient : (old new : Tunnel) (p : Past) (count : ℕ) → IsReached first old p
      → count ≤ length old.to_client.items → WritesClient old count new
      → IsReached first new (record p { client_sent = p.client_sent ++ take count old.to_client.items })
  ToOrigin : (old new : Tunnel) (p : Past) (count : ℕ) → IsReached first old p
      → count ≤ length old.to_origin.items → WritesOrigin old count new
      → IsReached first new (record p { origin_sent = p.origin_sent ++ take count old.to_origin.items })
  ClientEnded : (old new : Tunnel) (p : Past) → IsReached first old p → new ≡ record old { client_ended = true }
      → IsReached first new p
  OriginEnded : (old new : Tunnel) (p : Past) → IsReached first old p → new ≡ record old { origin_ended = true }
      → IsReached first new p

-- The theorem: each side was written, and then waits for, what waited for it first and then what was received of the
-- other, byte for byte.
pub record Conveyed (first t : Tunnel) (p : Past) : Type 0 where
  pub to_client : p.client_sent ++ t.to_client.items ≡ first.to_client.items ++ p.from_origin
  pub to_origin : p.origin_sent ++ t.to_origin.items ≡ first.to_origin.items ++ p.from_client
