-- A resource, by what a caller hands in.
use Rattle.std.specs.Prelude.{◌≡◌, ◌≢◌, ◌⊎◌, ℕ, ◌<◌, ◌==◌, Bool, true, false, List, [], ◌∷◌, codes, if◌then◌else◌}
use Rattle.std.specs.{Prelude.{Option, Some, None, Result, Ok, Err}, Global.Vec}
use Rattle.{http_header.specs.FieldValue.FieldValue, decide_cors.specs.Policy.Policy}
use Rattle.decide_resource.specs.declared.{representation.Negotiation.Negotiation, resource.Redirect.Redirect}
use Rattle.decide_resource.specs.declared.resource.Redirect.TheVariants.{MovedPermanently, Temporary, Permanent}
use Rattle.decide_resource.specs.declared.resource.{Resource.Resource, State.{State, TheVariants.{Current, Absent}}}
use Rattle.decide_resource.specs.declared.resource.State.TheVariants.{Gone, Moved, Server}
use Rattle.c_decisions.specs.{Contents.IsBoundaryOf, Numbers.known, Rules.IsPolicyAnswer, Texts.IsValuesOf}
use Rattle.{c_decisions.specs.declared.rules.Rules.Rules, c_parts.specs.declared.status.Failure.Failure}
use Rattle.{c_parts.specs.declared.status.Failure.TheVariants.Refused, c_resource.specs.Implemented.AreImplemented}
use Rattle.c_resource.specs.{Implemented.FailsAtMethods, MethodRules.IsRulesAnswer}
use Rattle.c_resource.specs.{Representations.IsRepresentationsAnswer, Values.IsFilledValue}
use Rattle.c_resource.specs.declared.representation.RepresentationParts.{RepresentationParts}
use Rattle.c_resource.specs.declared.resource.ResourceParts.{ResourceParts}

-- the hosts that are named, or any if the text is empty
abbrev pub AreHostsRead : List ℕ → Result (Option (Vec FieldValue)) Failure → Type 0
AreHostsRead text (Ok None) = text ≡ []
AreHostsRead text (Ok (Some hosts)) = (text ≢ []) × IsValuesOf text (Ok hosts)
AreHostsRead text (Err failure) = (text ≢ []) × IsValuesOf text (Err failure)

-- ---- the state

-- the redirect with this status
abbrev pub redirect_of : ℕ → Option Redirect
redirect_of number =
    if number == 301 then Some MovedPermanently
    else (if number == 307 then Some Temporary else (if number == 308 then Some Permanent else None))

-- the number is no state, or that of a redirect whose location can't be read
abbrev pub FailsAtRedirect : Option Redirect → List ℕ → Failure → Type 0
FailsAtRedirect None location failure = failure ≡ Refused
FailsAtRedirect (Some redirect) location failure = IsFilledValue location (Err failure)

-- the state of a number: that there is a current representation, or none, that it is gone for good, that the target is
-- the server in general, or a redirect
abbrev pub IsStateAnswer : ℕ → List ℕ → Result State Failure → Type 0
IsStateAnswer number location (Ok Current) = number ≡ 0
IsStateAnswer number location (Ok Absent) = number ≡ 1
IsStateAnswer number location (Ok Gone) = number ≡ 2
IsStateAnswer number location (Ok Server) = number ≡ 3
IsStateAnswer number location (Ok (Moved redirect value)) =
    (redirect_of number ≡ Some redirect) × IsFilledValue location (Ok value)
IsStateAnswer number location (Err failure) = (3 < number) × FailsAtRedirect (redirect_of number) location failure

-- ---- the rest

abbrev pub negotiation_of : ResourceParts → Negotiation
negotiation_of given =
    record {
      media_type = given.by_media_type;
      language = given.by_language;
      coding = given.by_coding;
      is_strict = given.is_strict;
    }

-- the boundary that is said, or else the usual one
abbrev pub boundary_text : List ℕ → List ℕ
boundary_text [] = codes "THIS_STRING_SEPARATES"
boundary_text (byte ∷ bytes) = byte ∷ bytes

-- the policy of the rules, if there are any
abbrev pub IsCorsAnswer : Bool → Rules → Result (Option Policy) Failure → Type 0
IsCorsAnswer has_cors given (Ok None) = has_cors ≡ false
IsCorsAnswer has_cors given (Ok (Some policy)) = (has_cors ≡ true) × IsPolicyAnswer given (Ok policy)
IsCorsAnswer has_cors given (Err failure) = (has_cors ≡ true) × IsPolicyAnswer given (Err failure)

-- ---- the resource

module _ (given : ResourceParts) (numbers : List RepresentationParts) (shared : Rules) where
  -- the resource is the one that was handed in
  pub record IsResource (resource : Resource) : Type 0 where
    pub state : IsStateAnswer given.state given.location.now (Ok resource.state)
    pub boundary : IsBoundaryOf (boundary_text given.boundary.now) (Ok resource.boundary)
    pub implemented : AreImplemented given.has_implemented given.implemented.now (Ok resource.implemented)
    pub hosts : AreHostsRead given.hosts.now (Ok resource.hosts)
    pub rules : IsRulesAnswer given (Ok resource.rules)
    pub representations : IsRepresentationsAnswer given numbers (Ok resource.representations)
    pub negotiation : resource.negotiation ≡ negotiation_of given
    pub has_strong_dates : resource.has_strong_dates ≡ given.has_strong_dates
    pub needs_length : resource.needs_length ≡ given.needs_length
    pub limit : resource.limit ≡ known given.has_limit given.limit
    pub cors : IsCorsAnswer given.has_cors shared (Ok resource.cors)

  -- the failure is that of reading one of its parts
  abbrev pub FailsAtResource : Failure → Type 0
  FailsAtResource failure =
      IsStateAnswer given.state given.location.now (Err failure)
      ⊎ (IsBoundaryOf (boundary_text given.boundary.now) (Err failure)
      ⊎ (((given.has_implemented ≡ true) × FailsAtMethods given.implemented.now failure)
      ⊎ (AreHostsRead given.hosts.now (Err failure)
      ⊎ (IsRulesAnswer given (Err failure)
      ⊎ (IsRepresentationsAnswer given numbers (Err failure) ⊎ IsCorsAnswer given.has_cors shared (Err failure))))))

  abbrev pub IsResourceAnswer : Result Resource Failure → Type 0
  IsResourceAnswer (Ok resource) = IsResource resource
  IsResourceAnswer (Err failure) = FailsAtResource failure
