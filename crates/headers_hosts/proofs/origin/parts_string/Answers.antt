use Rattle.std.{proofs.Common.{◌≡◌, List, ℕ, ◌++◌, sym, ◌∙◌, append_assoc}, specs.Prelude.{codes, decimal}}
use Rattle.headers_hosts.proofs.origin.parts_string.Goals as goal

regroup : (a b c d e : List ℕ) → (((a ++ b) ++ c) ++ d) ++ e ≡ a ++ (b ++ (c ++ (d ++ e)))
regroup a b c d e = simp append_assoc

pub returns-in_ok-format-in-Some : goal.returns-in_ok-format-in-Some
returns-in_ok-format-in-Some c =
    rw c.in-Some.is (c.in_ok-format-in-Some.ensures.ok
    ∙ sym (regroup c.args.scheme.now (codes "://") c.args.host.now (codes ":") (decimal c.in-Some.port)))

pub returns-in_ok-format-in-None : goal.returns-in_ok-format-in-None
returns-in_ok-format-in-None c =
    rw c.in-None.is (c.in_ok-format-in-None.ensures.ok
    ∙ sym (append_assoc c.args.scheme.now (codes "://") c.args.host.now))
