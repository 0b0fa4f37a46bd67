use Rattle.{std.proofs.Common.{All, take}, httparse.specs.Spans.header_bytes, http_server.specs.Host.IsHostValid}
use Rattle.server_connection.proofs.host.are_hosts.Given as goal

abbrev pub invariant-loop-span : goal.invariant-loop-span
invariant-loop-span l = All (λ s. IsHostValid (header_bytes l.input s)) (take l.span-index l.spans)
