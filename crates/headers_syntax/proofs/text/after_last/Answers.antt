use Rattle.std.proofs.Common.{IsTrue, List, ap, arith, drop, get_or, length, not, ℕ, ◌+◌, ◌-◌, ◌<◌, ◌==◌, ◌∙◌, ◌≡◌, ◌≤◌}
use Rattle.std.{proofs.lemmas.{Bool.false_from_ne_true, List.{take_rest, Sums.suffix_len_is}}, specs.List.after_last}
use Rattle.headers_syntax.proofs.text.after_last.Goals as goal

-- what follows the last such byte begins at place n
after_last-at : (byte : ℕ) (s : List ℕ) (n : ℕ) → n ≤ length s → ((k : ℕ) → n ≤ k → k < length s → ¬ IsTrue
    (get_or s k 0 == byte)) → (0 < n → IsTrue (get_or s (n - 1) 0 == byte)) → drop n s ≡ after_last (λ b. b == byte) s
after_last-at byte s n le none here = let tail = suffix_len_is (λ b. not (b == byte)) s n 0 le (λ k a b. ap not
    (false_from_ne_true _ (none k a b))) (λ l. ap not (here l)) in ap (λ k. drop k s) (omega (arith, tail, le))

pub returns-in-Some : goal.returns-in-Some
returns-in-Some c =
    let h = c.in-Some.ensures in let n = c.in-Some.place + 1 in let one : n - 1 ≡ c.in-Some.place = omega arith in
    take_rest c.args.text.now n ∙ after_last-at c.args.byte c.args.text.now n (omega (arith, h.0.high)) h.0.after
    (λ _. rw one h.1)

pub returns-in-None : goal.returns-in-None
returns-in-None c =
    after_last-at c.args.byte c.args.text.now 0 (omega arith) c.in-None.ensures (λ l. absurd (omega (arith, l)))
