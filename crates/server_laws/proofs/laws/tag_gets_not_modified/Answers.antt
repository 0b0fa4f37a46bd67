use Rattle.std.{proofs.Common.{ap, arith, length, refl, sym, ◌∙◌}, specs.Prelude.codes}
use Rattle.server_laws.proofs.Served.{by_none_match}
use Rattle.server_laws.proofs.laws.tag_gets_not_modified.Goals as goal

pub returns : goal.returns
returns c now later left more site look other first second r s a b tag again undated similar x told some y =
    by_none_match again similar x y told refl c.lists_parse_one_way.ensures
    (sym (again.others (codes "if-match") (λ e. omega (arith, ap length e))))
    (again.others (codes "if-unmodified-since") (λ e. omega (arith, ap length e)) ∙ undated) again.condition some
