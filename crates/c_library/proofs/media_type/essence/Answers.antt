use Rattle.std.proofs.{Common.{◌∙◌, ap, arith, length, sym, take}, lemmas.{Bool.false_from_ne_true, List.take_all}}
use Rattle.{std.proofs.lemmas.List.Sums.position_or_len_is, memchr.specs.Find.is_byte}
use Rattle.c_library.proofs.media_type.essence.Goals as goal

pub returns-in-Some : goal.returns-in-Some
returns-in-Some c =
    let text = c.args.media_type.now in
    let end = c.in-Some.end in
    let first = c.in-Some.ensures.0 in
    let place = position_or_len_is (is_byte 59) text end 0 (omega (arith, first.high))
    (λ k below. false_from_ne_true _ (first.before k (omega arith) below)) (λ _. c.in-Some.ensures.1) in
    c.split_at.ensures.front ∙ ap (λ n. take n text) (sym place)

pub returns-in-None : goal.returns-in-None
returns-in-None c =
    let text = c.args.media_type.now in
    let place = position_or_len_is (is_byte 59) text (length text) 0 (omega arith)
    (λ k below. false_from_ne_true _ (c.in-None.ensures k (omega arith) below))
    (λ past. absurd (omega (arith, past))) in
    sym (ap (λ n. take n text) place ∙ take_all (length text) text (omega arith))
