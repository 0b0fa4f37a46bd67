use Rattle.rfc_fields.proofs.QuotedLemmas.{quoted_texts_parse as law}
use Rattle.rfc_fields.proofs.laws.quoted_strings_parse.Goals as goal

pub returns : goal.returns
returns c = law
