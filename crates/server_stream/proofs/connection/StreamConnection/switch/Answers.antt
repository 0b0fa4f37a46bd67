use Rattle.http1.specs.{Head.{pairs, response_text}, Server.{peer_minor, upgrade_refusal, upgraded_server}}
use Rattle.server_stream.proofs.WriteLemmas.{writes}
use Rattle.server_stream.proofs.connection.StreamConnection.switch.Goals as goal

pub returns : goal.returns
returns c =
    let old = c.args.self.now in
    let w = c.write_upgrade in
    let headers = pairs c.args.headers.now in
    rw (← c.as_u16.ensures.value) (writes old w.new.self w.new.output
    (upgrade_refusal old.server c.as_u16.result c.args.reason.now headers)
    (response_text (peer_minor old.server) c.as_u16.result c.args.reason.now headers) (upgraded_server old.server) _ _ w.result w.ensures.ok
    w.ensures.next w.ensures.err w.ensures.kept w.ensures.outcome)
