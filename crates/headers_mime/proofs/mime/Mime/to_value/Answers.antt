use Rattle.{headers_mime.{proofs.MimeLemmas.kept-text, specs.MimeText.text_bytes}, std.proofs.Common.ap}
use Rattle.headers_mime.proofs.mime.Mime.to_value.Goals as goal

pub from_static-requires : goal.from_static-requires
from_static-requires c = kept-text c.self.inside.text c.in-Known.text.now c.self.invariant (ap text_bytes c.in-Known.is)
