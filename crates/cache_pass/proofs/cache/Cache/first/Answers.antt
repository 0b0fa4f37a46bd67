use Rattle.cache_pass.specs.Effects.{settings_of}
use Rattle.cache_pass.proofs.ReplyLemmas.{meanwhile-alone, meanwhile-shows, serve-alone, serve-shows}
use Rattle.cache_pass.proofs.cache.Cache.first.Goals as goal

pub returns-in-Some-clause-first : goal.returns-in-Some-clause-first
returns-in-Some-clause-first c = serve-shows (settings_of c.args.self.now) _ _ _ _ c.in-Serve.field-1
    (rw c.in-Serve.is at c.in_ok-number.ensures.answer) c.in-Some.reply
    (rw c.in-Some.is at c.in_ok-reply-in-Serve.ensures)

pub returns-in-Serve-clause-first : goal.returns-in-Serve-clause-first
returns-in-Serve-clause-first c = serve-alone (settings_of c.args.self.now) _ _ _ _ c.in-Serve.field-1
    (rw c.in-Serve.is at c.in_ok-number.ensures.answer) (rw c.in-None.is at c.in_ok-reply-in-Serve.ensures)
    c.unstored.result c.unstored.ensures

pub returns-in-Some-2-clause-first : goal.returns-in-Some-2-clause-first
returns-in-Some-2-clause-first c = meanwhile-shows (settings_of c.args.self.now) _ _ _ _ c.in-ServeAndRevalidate.field-1
    (rw c.in-ServeAndRevalidate.is at c.in_ok-number.ensures.answer) c.in-Some-2.reply
    (rw c.in-Some-2.is at c.in_ok-reply-in-ServeAndRevalidate.ensures)

pub returns-in-ServeAndRevalidate-clause-first : goal.returns-in-ServeAndRevalidate-clause-first
returns-in-ServeAndRevalidate-clause-first c = meanwhile-alone (settings_of c.args.self.now) _ _ _ _
    c.in-ServeAndRevalidate.field-1 (rw c.in-ServeAndRevalidate.is at c.in_ok-number.ensures.answer)
    (rw c.in-None-2.is at c.in_ok-reply-in-ServeAndRevalidate.ensures) c.unstored-in-None-2.result
    c.unstored-in-None-2.ensures
