use Rattle.std.proofs.Common.{subst}
use Rattle.http_header.specs.HeaderMap.{get_all}
use Rattle.headers.specs.Lines.{lines_of}
use Rattle.headers_section.specs.{Printed.block_printed, KnownHeaders.context_headers, KnownHeaders.security_headers}
use Rattle.headers_section.proofs.KnownLemmas.{IsNoneOf, IfOk-behind}
use Rattle.headers_section.proofs.block.context_block.Goals as goal

pub returns-in_default : goal.returns-in_default
returns-in_default c has =
    let own = lines_of (get_all c.args.map.now c.args.name.now) in
    let none : IsNoneOf context_headers c.as_str.result.now = assumption c.in_default in
    IfOk-behind (block_printed own) c.security_block.result context_headers security_headers c.args.name.now own
    (subst (IsNoneOf context_headers) c.as_str.ensures.value none) (c.security_block.ensures has)
