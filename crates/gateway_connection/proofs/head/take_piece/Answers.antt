use Rattle.std.proofs.{Common.{◌≡◌, ℕ, ◌+◌, ◌-◌, take, drop, ap, ◌∙◌, arith}, lemmas.List.drop-take}
use Rattle.gateway_connection.proofs.head.take_piece.Goals as goal

pub returns-clause-bytes : goal.returns-clause-bytes
returns-clause-bytes c = let s = c.args.piece in
    let items = c.args.input.now.items in
    let sum : s.end ≡ s.start + (s.end - s.start) = omega arith in
    c.advance.ensures ∙ ap (drop s.start) c.in_ok-bytes.ensures.front
    ∙ ap (λ (j : ℕ). drop s.start (take j items)) sum ∙ drop-take s.start (s.end - s.start) items
