use Rattle.{std.proofs.Common.{◌++◌, ◌∙◌}, server_laws.proofs.Served.{halves, sent_part}}
use Rattle.server_laws.proofs.laws.parts_join_to_the_content.Goals as goal

pub returns : goal.returns
returns c now later left more site look request next r s kept first second p q a b x y e f joins h k =
    (λ i. sent_part x p first e a h i ++ sent_part y q second f b k i) ∙ halves kept.content first second joins
