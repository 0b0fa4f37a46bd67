use Rattle.std.{proofs.Common.{◌∙◌, ℕ, List, Bor, lit<, rules}, proofs.lemmas.Iterator.YieldsList-from_map_by}
use Rattle.std.proofs.lemmas.Iterator.Consumers.{YieldsList-at, YieldsList-from_filter, count_from_yields_List}
use Rattle.std.{proofs.lemmas.Iterator.Splits.YieldsList-from_str_split, proofs.lemmas.List.Sums.length-filter}
use Rattle.headers_syntax.specs.Text.{trim}
use Rattle.headers_lists.{specs.StrictTransportSecurity.names_subdomains, specs.SecurityParts.pieces}
use Rattle.headers_lists.proofs.strict_transport_security.subdomains_named.Goals as goal

pub returns : goal.returns
returns c =
    count_from_yields_List c.filter.result c.count.result c.count.ensures.ran
    (YieldsList-from_filter _ names_subdomains (YieldsList-at c.filter.ensures.source
    (YieldsList-from_map_by _ (λ (part : Bor (List ℕ)). part.now) trim (YieldsList-at c.map.ensures.source
    (YieldsList-from_str_split 59 c.args.text.now (lit< tt) c.split.ensures.text c.split.ensures.has_more
    c.split.ensures.pattern)) c.map.ensures.closure (λ x r q k. search rules)))
    c.filter.ensures.closure (λ x b q k. search rules))
    ∙ length-filter names_subdomains (pieces c.args.text.now)
