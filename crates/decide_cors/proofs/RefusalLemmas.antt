-- Which rules make a policy.
use Rattle.std.{proofs.Common.{◌≡◌, None, Result, Ok, Err}, specs.Prelude.IfOk}
use Rattle.decide_cors.{specs.Policy.Policy, specs.SentOrigins.unsent_of, specs.declared.error.RulesError.RulesError}
use Rattle.decide_cors.{specs.declared.rules.CorsRules.CorsRules, specs.Rules.{IsLawful, IsPolicyOf, IsReadable, texts}}

-- a policy is made of rules that browsers read, and whose origins they send
pub lawful_by : (rules : CorsRules) (result : Result Policy RulesError) → IsReadable rules
    → IfOk result (λ policy. (unsent_of (texts rules.origins) ≡ None) × IsPolicyOf rules policy)
    → IfOk result (λ policy. IsLawful rules × IsPolicyOf rules policy)
lawful_by rules (Ok policy) readable made =
    (record { lists = readable.lists; no_star = readable.no_star; sent = made.0 }, made.1)
lawful_by rules (Err error) readable made = tt
