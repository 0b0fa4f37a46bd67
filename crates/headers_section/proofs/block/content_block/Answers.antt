use Rattle.std.proofs.Common.{◌++◌, subst}
use Rattle.http_header.specs.HeaderMap.{get_all}
use Rattle.headers.specs.Lines.{lines_of}
use Rattle.headers_section.{specs.Printed.block_printed, specs.KnownHeaders.{content_headers, context_headers}}
use Rattle.headers_section.{specs.KnownHeaders.security_headers, proofs.KnownLemmas.{IsNoneOf, IfOk-behind}}
use Rattle.headers_section.proofs.block.content_block.Goals as goal

pub returns-in_default : goal.returns-in_default
returns-in_default c has =
    let own = lines_of (get_all c.args.map.now c.args.name.now) in
    let none : IsNoneOf content_headers c.as_str.result.now = assumption c.in_default in
    IfOk-behind (block_printed own) c.context_block.result content_headers (context_headers ++ security_headers)
    c.args.name.now own (subst (IsNoneOf content_headers) c.as_str.ensures.value none) (c.context_block.ensures has)
