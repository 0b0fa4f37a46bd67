use Rattle.std.proofs.Common.{ap, Err, inl, Ok, refl}
use Rattle.cache_pass.{proofs.KeepLemmas.{keeps, keeps-full, keeps-none}, specs.Effects.{kept_of, settings_of}}
use Rattle.cache_pass.proofs.cache.Cache.keep.Goals as goal

pub returns-in-Ok-clause-kept : goal.returns-in-Ok-clause-kept
returns-in-Ok-clause-kept c =
    let does = c.describe.ensures.does in
    keeps (settings_of c.args.self.now) (settings_of c.describe.new.self) c.describe.ensures.settings c.args.key.now
    c.args.came c.args.clock (kept_of c.args.self.now) (kept_of c.describe.new.self)
    (kept_of (record c.describe.new.self { store = c.store.new.self })) c.if-is_past.ensures does.0 does.1 does.2
    c.in-Ok.ensures.step refl c.in-Ok.number (λ number same. c.in-Ok.ensures.stored number (ap (λ o. Ok o) same))
    (λ same. inl (c.in-Ok.ensures.unstored (ap (λ o. Ok o) same)))

pub returns-in-Err-Full-clause-kept : goal.returns-in-Err-Full-clause-kept
returns-in-Err-Full-clause-kept c =
    let does = c.describe.ensures.does in
    keeps-full (settings_of c.args.self.now) (settings_of c.describe.new.self) c.describe.ensures.settings
    c.args.key.now c.args.came c.args.clock (kept_of c.args.self.now) (kept_of c.describe.new.self)
    (kept_of (record c.describe.new.self { store = c.store.new.self })) c.if-is_past.ensures does.0 does.1 does.2
    c.in-Err-Full.ensures.step refl (c.in-Err-Full.ensures.full (ap Err c.in-Err-Full.field-0-is))
    c.in-Err-Full.ensures.err

pub returns-in-Err-Memory-clause-kept : goal.returns-in-Err-Memory-clause-kept
returns-in-Err-Memory-clause-kept c =
    let does = c.describe.ensures.does in
    keeps-none (settings_of c.args.self.now) (settings_of c.describe.new.self) c.describe.ensures.settings
    c.args.key.now c.args.came c.args.clock (kept_of c.args.self.now) (kept_of c.describe.new.self)
    (kept_of (record c.describe.new.self { store = c.store.new.self })) c.if-is_past.ensures does.0 does.1 does.2
    c.in-Err-Memory.ensures.step refl _ c.in-Err-Memory.ensures.memory c.in-Err-Memory.ensures.err
