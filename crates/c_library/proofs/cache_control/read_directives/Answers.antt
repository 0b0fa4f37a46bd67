use Rattle.std.{proofs.Common.{◌≡◌, ◌∙◌, ◌<◌, List, Some, ap, arith, length, rules, subst, sym}, specs.Prelude.codes}
use Rattle.headers.specs.{CacheControl.{directives_of, is_set}, Lines.{Line, lines_of}}
use Rattle.{headers_items.specs.Entries.entries, c_parts.{specs.FieldText.field_lines, proofs.WrittenLemmas.has_values}}
use Rattle.c_library.proofs.DirectiveLemmas.{proxy_of}
use Rattle.c_library.proofs.cache_control.read_directives.Goals as goal

pub returns-in-Ok : goal.returns-in-Ok
returns-in-Ok c =
    let values = c.in-Some.values.items in
    let text = field_lines c.args.lines.now in
    let read = rw c.in-Some.is at c.in_ok-values.ensures.some in
    let some : 0 < length values = search (rules, arith) in
    let same : lines_of c.as_slice.result.now ≡ text = ap lines_of c.as_slice.ensures.value ∙ sym read.0 in
    let same_again : lines_of c.as_slice-in-Ok.result.now ≡ text =
    ap lines_of c.as_slice-in-Ok.ensures.value ∙ sym read.0 in
    let directs = subst (λ (lines : List Line). directives_of lines ≡ Some c.in-Ok.cache) same c.in-Ok.ensures.value in
    let flag : c.has_flag.result ≡ is_set (codes "proxy-revalidate") (entries text) = c.has_flag.ensures
    ∙ ap (λ (lines : List Line). is_set (codes "proxy-revalidate") (entries lines)) same_again in
    let proxy = proxy_of text c.in-Ok.cache directs ∙ sym flag in
    (rw read.0 (has_values values some), (read.1, (c.in-Ok.cache, directs, c.shown.ensures proxy)))
