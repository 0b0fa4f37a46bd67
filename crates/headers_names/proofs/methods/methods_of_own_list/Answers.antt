use Rattle.std.proofs.Common.{refl}
use Rattle.http_header.specs.Token.{IsToken}
use Rattle.headers_names.{specs.ListItem.method_of, specs.ListItemLaws.method_of-empty}
use Rattle.headers_names.{proofs.ReadingLemmas.method-reads, proofs.RoundTripLemmas.IsListOf-own}
use Rattle.headers_names.proofs.methods.methods_of_own_list.Goals as goal

pub returns : goal.returns
returns c = IsListOf-own method_of method_of-empty IsToken (λ x. method-reads x x refl)
