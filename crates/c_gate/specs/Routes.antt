-- Which requests a route is for.
use Rattle.std.specs.Prelude.{ℕ, Bool, true, ◌&&◌, ◌||◌, ◌==◌, List, [], ◌∷◌, codes, drop, length, nat_le, take}
use Rattle.{std.specs.List.{ends_with, starts_with}, headers_syntax.specs.AsciiCase.same_name}
use Rattle.{gateway_exchange.specs.declared.decision.AskedRequest.AskedRequest, c_typed.specs.Hosts.is_port_part}
use Rattle.c_gate.specs.Texts.{authority_of}

-- The authority is this host, in any case and at any port (RFC 9110, section 4.2.3). An empty host is each one.
abbrev pub is_host : (host authority : List ℕ) → Bool
is_host host authority =
    (length host == 0)
    || (nat_le (length host) (length authority)
    && (same_name host (take (length host) authority) && is_port_part (drop (length host) authority)))

-- a path ends here, or goes on below a slash (47), or a query (63) follows it
abbrev pub is_edge : List ℕ → Bool
is_edge [] = true
is_edge (byte ∷ rest) = (byte == 47) || (byte == 63)

-- the target is this path, or one below it
abbrev pub is_below : (path target : List ℕ) → Bool
is_below path target =
    starts_with (◌==◌) target path
    && (ends_with (◌==◌) path (codes "/") || is_edge (drop (length path) target))

-- the request is for this host, and below this path
abbrev pub is_for : (host path : List ℕ) → AskedRequest → Bool
is_for host path a = is_host host (authority_of a) && is_below path a.outgoing.target
