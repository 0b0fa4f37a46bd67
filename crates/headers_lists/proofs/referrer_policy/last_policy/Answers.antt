use Rattle.headers_lists.specs.{ReferrerPolicy.policy_named, declared.referrer_policy.Policy.Policy}
use Rattle.{headers_syntax.specs.Text.trim, std.proofs.Common.{List, None, Option, Some, [], lit<, map, refl, rules, ℕ}}
use Rattle.std.proofs.{Common.{◌==◌, ◌∙◌, ◌∷◌, ◌≡◌}, lemmas.Iterator.Consumers.fold_from_yields_List}
use Rattle.std.{proofs.lemmas.Iterator.Splits.YieldsList-from_str_split, specs.List.{cons_option, filter_map, fold}}
use Rattle.std.specs.{List.{last_or, slice_split}, Option.option_or}
use Rattle.headers_lists.proofs.referrer_policy.last_policy.Goals as goal

last_more : (r o : Option Policy) (all : List Policy) → last_or (option_or r o) all ≡ last_or o (cons_option r all)
last_more None o all = refl
last_more (Some policy) o all = refl

folded : (o : Option Policy) (cut : List (List ℕ))
    → fold (λ last part. option_or (policy_named (trim part)) last) o cut
    ≡ last_or o (filter_map policy_named (map trim cut))
folded o [] = refl
folded o (part ∷ cut) =
    folded (option_or (policy_named (trim part)) o) cut
    ∙ last_more (policy_named (trim part)) o (filter_map policy_named (map trim cut))

pub returns : goal.returns
returns c =
    fold_from_yields_List _ (λ last part. option_or (policy_named (trim part)) last) c.args.before c.fold.result
    c.fold.ensures.ran
    (YieldsList-from_str_split 44 c.in-Some.text.now (lit< tt) c.split.ensures.text c.split.ensures.has_more
    c.split.ensures.pattern) (λ a x b q k. search rules)
    ∙ folded c.args.before (slice_split (λ b. b == 44) c.in-Some.text.now)
    ∙ rw (c.in-Some.ensures.cases.1, c.in-Some.ensures.cases.0) refl
