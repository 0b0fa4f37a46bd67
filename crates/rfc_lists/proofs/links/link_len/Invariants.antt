use Rattle.std.proofs.Common.{◌≡◌, ◌+◌, drop}
use Rattle.rfc_lists.specs.{Links.link_len, declared.links.Place.TheVariants.Outside}
use Rattle.rfc_lists.proofs.links.link_len.Given as goal

abbrev pub invariant-loop-index : goal.invariant-loop-index
invariant-loop-index l = link_len Outside l.text ≡ l.index + link_len l.place (drop l.index l.text)
