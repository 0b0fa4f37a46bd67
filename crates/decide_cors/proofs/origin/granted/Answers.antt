use Rattle.std.{proofs.Common.{rules, true, false, sym, ◌∙◌}, specs.Prelude.{codes, option_map}}
use Rattle.{headers.specs.{LineMap.lines_at, Lines.{lines_of, only_line}}, decide_cors.proofs.GrantLemmas.granted_by}
use Rattle.decide_cors.proofs.origin.granted.Goals as goal

pub returns-in_ok-clone : goal.returns-in_ok-clone
returns-in_ok-clone c =
    rw (c.in_ok-clone.ensures.cases) (granted_by (option_map (λ listed. lines_of listed.items) c.args.origins.now) _ _ _
    true (search rules) (search rules) (rw c.deref.ensures.value at (sym c.if-is_listed.true ∙ c.is_listed.ensures)))

pub returns-else-is_listed : goal.returns-else-is_listed
returns-else-is_listed c = granted_by (option_map (λ listed. lines_of listed.items) c.args.origins.now)
    (only_line (lines_at c.args.request.now (codes "origin"))) c.in-Some.listed.items
    c.in-Some-only_value.line.now.bytes false (search rules) (search rules)
    (rw c.deref.ensures.value at (sym c.if-is_listed.false ∙ c.is_listed.ensures))
