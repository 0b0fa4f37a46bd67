use Rattle.std.proofs.{Common.{rules, tests, ◌∙◌, bytes_eq}, lemmas.Iterator.Search.any_from_yields_List}
use Rattle.{std.proofs.lemmas.Iterator.Splits.YieldsList-from_slice_split, http_header.specs.Token.lowercase}
use Rattle.gateway_messages.specs.Via.{ends_word}
use Rattle.gateway_messages.proofs.via.Pseudonym.is_in_line.Goals as goal

pub returns : goal.returns
returns c = any_from_yields_List (λ word. bytes_eq (lowercase word) (lowercase c.args.self.now)) _ _ _ c.any.ensures.ran
    (YieldsList-from_slice_split _ ends_word _ (c.split.ensures.rest ∙ c.as_bytes.ensures.value)
    c.split.ensures.done c.split.ensures.closure (λ x b q k. search (rules, tests))) (λ x b q k. search rules)
