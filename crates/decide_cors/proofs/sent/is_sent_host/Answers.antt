use Rattle.{std.proofs.Common.sym, decide_cors.proofs.SentLemmas.IsUtf8-host}
use Rattle.decide_cors.proofs.sent.is_sent_host.Goals as goal

pub unreachable-requires : goal.unreachable-requires
unreachable-requires c = c.in-Err.ensures.cases.0 (IsUtf8-host c.args.host.now (sym c.if-not-has_host_bytes.ensures))
