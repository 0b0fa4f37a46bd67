use Rattle.std.proofs.{Common.rules, lemmas.Iterator.{YieldsList-from_slice, Search.find_from_yields_List}}
use Rattle.{http_header.specs.FieldValue.FieldValue, headers.specs.LineMap.lines_at}
use Rattle.decide_handshake.specs.Protocols.{lists_protocol}
use Rattle.decide_handshake.proofs.protocols.taken.Goals as goal

pub returns : goal.returns
returns c = find_from_yields_List (λ (v : FieldValue). lists_protocol v.bytes (lines_at c.args.request.now)) _ _
    c.find.result c.find.ensures.ran (YieldsList-from_slice c.args.own.now cc) (λ x b q k. search rules)
