use Rattle.http1.specs.{Head.{pairs, response_text}, Server.{after_informational, informational_refusal}}
use Rattle.server_stream.proofs.WriteLemmas.{writes}
use Rattle.server_stream.proofs.connection.StreamConnection.interim.Goals as goal

pub returns : goal.returns
returns c =
    let old = c.args.self.now in
    let w = c.write_informational in
    let headers = pairs c.args.headers.now in
    rw (← c.as_u16.ensures.value) (writes old w.new.self w.new.output
    (informational_refusal old.server c.as_u16.result c.args.reason.now headers)
    (response_text 1 c.as_u16.result c.args.reason.now headers) (after_informational old.server c.as_u16.result) _ _ w.result w.ensures.ok
    w.ensures.next w.ensures.err w.ensures.kept w.ensures.outcome)
