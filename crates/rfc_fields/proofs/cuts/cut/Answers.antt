use Rattle.{rfc_fields.proofs.CutLemmas.place_found, std.proofs.Common.{None, arith, length-drop, refl}}
use Rattle.std.proofs.lemmas.{Grind.common_steps, List.take_all}
use Rattle.rfc_fields.proofs.cuts.cut.Goals as goal

pub returns-in-Some : goal.returns-in-Some
returns-in-Some c = grind (arith, common_steps, length-drop, take_all, place_found)

pub returns-in-None : goal.returns-in-None
returns-in-None c = rw (place_found c.args.at c.args.text.now None c.in-None.ensures) refl
