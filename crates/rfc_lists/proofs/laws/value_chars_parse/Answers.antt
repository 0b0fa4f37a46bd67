use Rattle.rfc_lists.proofs.ExtendedLaws as laws
use Rattle.rfc_lists.proofs.laws.value_chars_parse.Goals as goal

pub returns : goal.returns
returns c = laws.value_chars_parse
