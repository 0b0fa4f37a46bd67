use Rattle.std.{proofs.Common.{◌∙◌, Option, ap, false}, specs.Option.option_map_or}
use Rattle.decide_negotiation.{specs.Lookup.excludes, specs.declared.preference.Preference.Preference}
use Rattle.decide_negotiation.proofs.lookup.is_excluded.Goals as goal

pub returns-in-Some : goal.returns-in-Some
returns-in-Some c =
    c.excludes.ensures ∙ ap (λ (said : Option Preference). option_map_or excludes said false) c.in-Some.ensures

pub returns-in-None : goal.returns-in-None
returns-in-None c = ap (λ (said : Option Preference). option_map_or excludes said false) c.in-None.ensures
