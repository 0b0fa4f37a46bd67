use Rattle.std.proofs.Common.{sym, ◌∙◌, vec_items, Global}
use Rattle.headers_mime.specs.MediaTypeReading.{canonical_of, canonical_rest}
use Rattle.headers_mime.proofs.WritingLemmas.{canonical_of-none, canonical_of-pieces, refused_behind}
use Rattle.headers_mime.proofs.writing.canonical_text.Goals as goal

pub returns-in_default : goal.returns-in_default
returns-in_default c = canonical_of-none c.args.bytes.now (sym c.in_default.ensures)

pub returns-in-Err : goal.returns-in-Err
returns-in-Err c =
    refused_behind (vec_items {Z = Global}) _ c.push_parameters.new.text.items (canonical_of c.args.bytes.now)
    (canonical_rest c.in-Some.rest.now) c.in-Err.refused (canonical_of-pieces c.args.bytes.now c.in-Some.top_level.now
    c.in-Some.subtype.now c.in-Some.rest.now _ _ _ _ (sym c.in-Some.ensures) c.in_ok-text.ensures.items
    c.in_ok-push_lowercase.ensures c.in_ok-push.ensures.items c.in_ok-push_lowercase-2.ensures) c.in-Err.ensures

pub returns-in-Ok : goal.returns-in-Ok
returns-in-Ok c = canonical_of-pieces c.args.bytes.now c.in-Some.top_level.now c.in-Some.subtype.now c.in-Some.rest.now
    _ _ _ _ (sym c.in-Some.ensures) c.in_ok-text.ensures.items c.in_ok-push_lowercase.ensures c.in_ok-push.ensures.items
    c.in_ok-push_lowercase-2.ensures ∙ c.in-Ok.ensures
