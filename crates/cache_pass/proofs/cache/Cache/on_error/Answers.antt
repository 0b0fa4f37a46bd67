use Rattle.{cache_policy.specs.Requests.request_of, std.proofs.Common.{◌∙◌, sym}}
use Rattle.cache_pass.{proofs.ReplyLemmas.{error-none, error-reply}, specs.Effects.{settings_of, stored_at}}
use Rattle.cache_pass.proofs.cache.Cache.on_error.Goals as goal

pub returns-in-Some-clause-answer : goal.returns-in-Some-clause-answer
returns-in-Some-clause-answer c = error-reply (settings_of c.args.self.now) (request_of c.args.request.now) c.args.now
    (stored_at c.args.key.now (record c.args.self.now { store = c.lookup_guessing.new.self })) c.in_ok-lookup.lookup
    c.in_ok-lookup.ensures.answer c.in-Some.number (sym c.number_on_error.ensures ∙ c.in-Some.is) c.reply.result
    c.reply.ensures

pub returns-clause-answer : goal.returns-clause-answer
returns-clause-answer c = error-none (settings_of c.args.self.now) (request_of c.args.request.now) c.args.now
    (stored_at c.args.key.now (record c.args.self.now { store = c.lookup_guessing.new.self })) c.in_ok-lookup.lookup
    c.in_ok-lookup.ensures.answer (sym c.number_on_error.ensures ∙ c.in-None.is)
