use Rattle.std.proofs.{Common.{rules, tests, ◌∙◌, bytes_eq}, lemmas.Iterator.YieldsList-from_slice}
use Rattle.{std.proofs.lemmas.Iterator.Search.any_from_yields_List, http_header.specs.FieldValue.FieldValue}
use Rattle.{http_header.specs.Token.lowercase, headers.specs.Lines.Line, decide_cors.proofs.GrantLemmas.any_lines}
use Rattle.decide_handshake.proofs.origins.lists_origin.Goals as goal

pub returns : goal.returns
returns c =
    any_from_yields_List (λ (origin : FieldValue). bytes_eq (lowercase origin.bytes) (lowercase c.args.text.now))
    _ _ c.any.result c.any.ensures.ran (YieldsList-from_slice c.args.origins.now cc) (λ x b q k. search (rules, tests))
    ∙ any_lines (λ (origin : Line). bytes_eq (lowercase origin) (lowercase c.args.text.now)) c.args.origins.now
