use Rattle.{cache_policy.specs.Requests.request_of, headers.specs.LineMap.lines_at, std.proofs.Common.inr}
use Rattle.cache_store.specs.{Changes.IsRestored, Kept.contents_of}
use Rattle.cache_pass.specs.{declared.cache.Cache.Cache, Effects.{kept_of, settings_of}}
use Rattle.cache_pass.proofs.{ReplyLemmas.{not-shown, shows-after}, RightLemmas.restored-named}
use Rattle.cache_pass.proofs.cache.Cache.revalidated.Goals as goal

pub returns-in-Some-clause-next : goal.returns-in-Some-clause-next
returns-in-Some-clause-next c = shows-after (settings_of c.args.self.now) c.args.key.now (request_of c.args.request.now)
    (lines_at c.args.update.now) c.args.exchange (kept_of c.args.self.now)
    (kept_of (record c.args.self.now { store = c.freshen.new.self })) c.in-Ok-Stored.number
    (rw c.in-Ok-Stored.field-0-is at c.in-Ok-Stored.ensures.ok) c.in-Some.reply
    (rw c.in-Some.is at c.in_ok-reply-in-Ok-Stored.ensures)

pub returns-in-None-clause-next : goal.returns-in-None-clause-next
returns-in-None-clause-next c =
    let cache : Cache = record c.args.self.now { store = c.freshen.new.self } in
    let restored : IsRestored (settings_of c.args.self.now).policy c.args.key.now (request_of c.args.request.now)
    (lines_at c.args.update.now) c.args.exchange (contents_of c.args.self.now.store) (contents_of cache.store)
    c.in-Ok-Stored.number = rw c.in-Ok-Stored.field-0-is at c.in-Ok-Stored.ensures.ok in
    inr (inr (not-shown {x = restored.fresh}
    (restored-named (settings_of c.args.self.now) cache c.args.key.now (request_of c.args.request.now)
    (lines_at c.args.update.now) c.args.exchange (contents_of c.args.self.now.store) c.in-Ok-Stored.number restored)
    (rw c.in-None.is at c.in_ok-reply-in-Ok-Stored.ensures)))
