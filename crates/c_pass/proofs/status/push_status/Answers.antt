use Rattle.std.proofs.{Common.{◌≡◌, ◌++◌, ◌∙◌, List, ℕ, ap, append_assoc, codes, decimal}, lemmas.Result.on_ok_weaker}
use Rattle.c_pass.proofs.status.push_status.Goals as goal

pub returns : goal.returns
returns c =
    let number = decimal c.args.status in
    on_ok_weaker c.push_number.result
    (λ (pushed : c.push_number.new.text.items ≡ c.extend_from_slice.new.self.items ++ number).
    pushed ∙ ap (λ (it : List ℕ). it ++ number) c.in_ok-extend_from_slice.ensures.items
    ∙ append_assoc c.args.text.now.items (codes "; fwd-status=") number)
    c.push_number.ensures
