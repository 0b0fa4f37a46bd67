use Rattle.std.proofs.Common.{refl}
use Rattle.http_header.specs.FieldName.{IsHeaderName}
use Rattle.headers_names.{specs.ListItem.name_of, specs.ListItemLaws.name_of-empty, proofs.ReadingLemmas.name-reads}
use Rattle.headers_names.proofs.RoundTripLemmas.{IsListOf-own}
use Rattle.headers_names.proofs.names.names_of_own_list.Goals as goal

pub returns : goal.returns
returns c = IsListOf-own name_of name_of-empty IsHeaderName (λ x. name-reads x x refl)
