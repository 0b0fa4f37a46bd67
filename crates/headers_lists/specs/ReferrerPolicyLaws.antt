-- Round trip: the encoding of a policy decodes to that policy.
use Rattle.std.specs.Prelude.{refl}
use Rattle.headers_syntax.specs.HeaderLaws.{ReadsBack}
use Rattle.headers_lists.specs.ReferrerPolicy.{referrer_grammar}
use Rattle.headers_lists.specs.declared.referrer_policy.Policy.TheVariants.{NoReferrer, NoReferrerWhenDowngrade}
use Rattle.headers_lists.specs.declared.referrer_policy.Policy.TheVariants.{SameOrigin, Origin}
use Rattle.headers_lists.specs.declared.referrer_policy.Policy.TheVariants.{OriginWhenCrossOrigin, UnsafeUrl}
use Rattle.headers_lists.specs.declared.referrer_policy.Policy.TheVariants.{StrictOrigin}
use Rattle.headers_lists.specs.declared.referrer_policy.Policy.TheVariants.{StrictOriginWhenCrossOrigin}

pub referrer_back : ReadsBack referrer_grammar
referrer_back lines NoReferrer h = refl
referrer_back lines NoReferrerWhenDowngrade h = refl
referrer_back lines SameOrigin h = refl
referrer_back lines Origin h = refl
referrer_back lines OriginWhenCrossOrigin h = refl
referrer_back lines UnsafeUrl h = refl
referrer_back lines StrictOrigin h = refl
referrer_back lines StrictOriginWhenCrossOrigin h = refl
