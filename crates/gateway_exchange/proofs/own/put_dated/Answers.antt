use Rattle.std.proofs.Common.{rules, ◌≡◌, ◌∷◌, List, [], MatchResult, subst}
use Rattle.http1.specs.{Fields.Header, Head.header_parts}
use Rattle.gateway_exchange.specs.Own.{PutsWith, RefusesWith, close_field, close_fields, date_field}
use Rattle.gateway_exchange.proofs.own.put_dated.Goals as goal

pub returns-then-closes : goal.returns-then-closes
returns-then-closes c = let is : header_parts
    c.date_field.result ∷ close_field ∷ [] ≡ date_field c.args.date.now ∷ close_fields c.args.closes = search rules in
    subst (λ (fields : List Header). MatchResult c.put_with.result
    (λ _. PutsWith fields c.args.client.now c.args.own.now c.put_with.new.client)
    (λ error. RefusesWith fields c.args.client.now c.args.own.now error c.put_with.new.client)) is c.put_with.ensures
