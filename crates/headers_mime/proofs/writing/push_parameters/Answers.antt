use Rattle.headers_mime.proofs.WritingLemmas.{canonical_rest-end, canonical_rest-none, canonical_rest-some, none_behind}
use Rattle.headers_mime.proofs.WritingLemmas.{option_map-option_map, segment-shrinks}
use Rattle.{headers_mime.specs.MediaTypeReading.canonical_rest, std.proofs.Common.{append_assoc, arith, length, sym}}
use Rattle.std.proofs.{Common.{◌<◌, ◌∙◌, ◌≡◌}, lemmas.Bool.Decides.nat_tests}
use Rattle.headers_mime.proofs.writing.push_parameters.Goals as goal

pub returns-in_default : goal.returns-in_default
returns-in_default c = let long : 0 < length c.loop-rest.rest.now = grind (arith, nat_tests) in
    none_behind c.args.text.now.items c.loop-rest.text.items (canonical_rest c.args.bytes.now)
    (canonical_rest c.loop-rest.rest.now) c.loop-rest.invariant
    (canonical_rest-none c.loop-rest.rest.now long (sym c.in_default.ensures))

pub loop-rest-smaller : goal.loop-rest-smaller
loop-rest-smaller c = segment-shrinks c.loop-rest.rest.now (c.in-Some.parameter, c.in-Some.left.now)
    (sym c.in-Some.ensures)

pub loop-rest-preserved : goal.loop-rest-preserved
loop-rest-preserved c = let long : 0 < length c.loop-rest.rest.now = grind (arith, nat_tests) in
    let some = canonical_rest-some c.loop-rest.rest.now (c.in-Some.parameter, c.in-Some.left.now) long
    (sym c.in-Some.ensures) in
    c.loop-rest.invariant ∙ rw (some, c.in_ok-push_parameter.ensures) (simp (option_map-option_map, append_assoc))

pub returns : goal.returns
returns c = let none : length c.loop-rest.rest.now ≡ 0 = grind (arith, nat_tests) in
    c.loop-rest.invariant ∙ canonical_rest-end c.loop-rest.rest.now c.loop-rest.text.items none
