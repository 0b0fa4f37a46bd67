use Rattle.headers_mime.{proofs.MimeLemmas.{kept-canonical, kept-text}, specs.MimeText.text_bytes}
use Rattle.std.proofs.{Common.ap, lemmas.Bool.some_since}
use Rattle.headers_mime.proofs.mime.Mime.as_str.Goals as goal

pub unwrap-requires : goal.unwrap-requires
unwrap-requires c = let text = kept-text c.self.inside.text c.in-Read.value.bytes c.self.invariant
    (ap text_bytes c.in-Read.is) in some_since c.read_text.result _ _ c.read_text.ensures.cases (λ f. cc (text, f))

pub returns-in-Known-clause-canonical : goal.returns-in-Known-clause-canonical
returns-in-Known-clause-canonical c = kept-canonical c.self.inside.text c.args.self.now c.self.invariant c.self.view_is
