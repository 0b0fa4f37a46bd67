use Rattle.{std.proofs.Common.rules, headers.specs.{LineMap.lines_at, Lines.Line}, decide_handshake.specs.Server.HasKey}
use Rattle.decide_handshake.specs.declared.server.Fault.TheVariants.{NotGet, OldHttp, NotHttp11, NoHost, NoUpgrade}
use Rattle.decide_handshake.specs.declared.server.Fault.TheVariants.{NoConnection, NoKey, MalformedProtocols}
use Rattle.decide_handshake.specs.declared.server.{Fault.TheVariants.MalformedExtensions, Refusal.TheVariants.Faulty}
use Rattle.decide_handshake.specs.declared.server.Refusal.TheVariants.{OtherVersion, OtherOrigin}
use Rattle.decide_handshake.proofs.ServerLemmas.{accepted, first}
use Rattle.decide_handshake.proofs.server.judge.Goals as goal

-- each return has seen the rules before its refusal, and the last one all
pub returns-then-ne : goal.returns-then-ne
returns-then-ne c = first c.args.method.now c.args.version (lines_at c.args.request.now) c.args.origins.now
    (Faulty NotGet) (search rules) (search rules)

pub returns-then-not-is_recent : goal.returns-then-not-is_recent
returns-then-not-is_recent c = first c.args.method.now c.args.version (lines_at c.args.request.now) c.args.origins.now
    (Faulty OldHttp) (search rules) (search rules)

pub returns-then-not-is_http_11 : goal.returns-then-not-is_http_11
returns-then-not-is_http_11 c = first c.args.method.now c.args.version (lines_at c.args.request.now) c.args.origins.now
    (Faulty NotHttp11) (search rules) (search rules)

pub returns-then-not-has_host : goal.returns-then-not-has_host
returns-then-not-has_host c = first c.args.method.now c.args.version (lines_at c.args.request.now) c.args.origins.now
    (Faulty NoHost) (search rules) (search rules)

pub returns-then-not-lists_websocket : goal.returns-then-not-lists_websocket
returns-then-not-lists_websocket c = first c.args.method.now c.args.version (lines_at c.args.request.now)
    c.args.origins.now (Faulty NoUpgrade) (search rules) (search rules)

pub returns-then-not-lists_upgrade : goal.returns-then-not-lists_upgrade
returns-then-not-lists_upgrade c = first c.args.method.now c.args.version (lines_at c.args.request.now)
    c.args.origins.now (Faulty NoConnection) (search rules) (search rules)

pub returns-in_default : goal.returns-in_default
returns-in_default c =
    let none : (key : Line) → ¬ (HasKey (lines_at c.args.request.now) key) = search rules in
    first c.args.method.now c.args.version (lines_at c.args.request.now) c.args.origins.now
    (Faulty NoKey) (λ some. none some.0 some.1) (search rules)

pub returns-then-not-is_version_13 : goal.returns-then-not-is_version_13
returns-then-not-is_version_13 c = first c.args.method.now c.args.version (lines_at c.args.request.now)
    c.args.origins.now OtherVersion (search rules) (search rules, (c.in-Some.ensures.0, c.in-Some.ensures.1))

pub returns-then-not-offers_protocols : goal.returns-then-not-offers_protocols
returns-then-not-offers_protocols c = first c.args.method.now c.args.version (lines_at c.args.request.now)
    c.args.origins.now (Faulty MalformedProtocols) (search rules)
    ((search rules, (c.in-Some.ensures.0, c.in-Some.ensures.1)), search rules)

pub returns-then-not-has_extensions : goal.returns-then-not-has_extensions
returns-then-not-has_extensions c = first c.args.method.now c.args.version (lines_at c.args.request.now)
    c.args.origins.now (Faulty MalformedExtensions) (search rules)
    (((search rules, (c.in-Some.ensures.0, c.in-Some.ensures.1)), search rules), search rules)

pub returns-then-not-allows_origin : goal.returns-then-not-allows_origin
returns-then-not-allows_origin c = first c.args.method.now c.args.version (lines_at c.args.request.now)
    c.args.origins.now OtherOrigin (search rules)
    ((((search rules, (c.in-Some.ensures.0, c.in-Some.ensures.1)), search rules), search rules), search rules)

pub returns : goal.returns
returns c = (
  c.in-Some.ensures.0,
  accepted _ _ _ _ (search rules) (search rules) (search rules) (search rules) (search rules) c.in-Some.ensures.0
      c.in-Some.ensures.1 (search rules) (search rules) (search rules) (search rules),
  search rules,
)
