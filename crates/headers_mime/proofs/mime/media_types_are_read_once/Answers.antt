use Rattle.headers_mime.proofs.{CanonicalLemmas.{canonical-media, canonical_parts-twice}, ReadingLemmas.one_reading}
use Rattle.{headers_mime.specs.MediaType.media_text, std.proofs.Common.ap}
use Rattle.headers_mime.proofs.mime.media_types_are_read_once.Goals as goal

pub returns : goal.returns
returns c = record { once = one_reading; back = canonical-media; stable = λ m. ap media_text (canonical_parts-twice m) }
