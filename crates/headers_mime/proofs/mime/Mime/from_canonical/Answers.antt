use Rattle.{headers_mime.proofs.MimeLemmas.is_canonical-value, http_header.specs.FieldValue.IsFieldValue}
use Rattle.std.proofs.Common.{subst, sym}
use Rattle.headers_mime.proofs.mime.Mime.from_canonical.Goals as goal

pub from_known_valid-requires : goal.from_known_valid-requires
from_known_valid-requires c = subst IsFieldValue (sym c.in_ok-from_vec.ensures.ok)
    (is_canonical-value c.args.text.items c.requires)
