-- Which of the reasons that apply to a request decides.
use Rattle.std.specs.Prelude.{◌≡◌, ℕ, ◌<◌, Bool, true, false, List, [], ◌∷◌, Option, Some, None}
use Rattle.decide_resource.specs.declared.reason.Reason.{Reason, TheVariants.{InvalidHost, Misdirected, Preflight}}
use Rattle.decide_resource.specs.declared.reason.Reason.TheVariants.{Denied, UnknownMethod, MethodNotAllowed}
use Rattle.decide_resource.specs.declared.reason.Reason.TheVariants.{UnmetExpectation, PartialContent, Moved, Gone}
use Rattle.decide_resource.specs.declared.reason.Reason.TheVariants.{NotFound, Options, LengthRequired, ContentTooLarge}
use Rattle.decide_resource.specs.declared.reason.Reason.TheVariants.{UnsupportedMediaType, UnsupportedCoding}
use Rattle.decide_resource.specs.declared.reason.Reason.TheVariants.{NotAcceptable, PreconditionRequired, Admitted}

-- The stage of a reason. Reasons of one stage exclude each other.
--
-- 0, 1: a request without a valid Host is answered by 400 whatever else it says (RFC 9112, section 3.2), and one that
-- was sent to another server is no request for the resource (RFC 9110, section 7.4).
-- 2: a preflight has no credentials (Fetch standard, "CORS-preflight fetch"), so it is answered before they are asked
-- for.
-- 3: a request that is denied learns nothing of the resource: neither which methods it has nor whether it exists (RFC
-- 9110, sections 15.5.4 and 15.5.5).
-- 4, 5: a method that the server implements is compared with those of the resource (section 9.1).
-- 6: our choice: an expectation is about the exchange, and not about the resource (section 10.1.1).
-- 7: a part is no content of the method, whatever the state of the resource (section 14.5).
-- 8: our choice: a client learns where the resource is before it is asked for other content.
-- 9: OPTIONS tells the methods of what is there (section 9.3.7), and has no content.
-- 10, 11, 12: our choice: the content's length, its type, its codings, each before the next.
-- 13: our choice: what can't be performed needs no representation.
-- 14: a precondition is asked for only if the request would otherwise go on (RFC 6585, section 3).
-- 15: preconditions are evaluated after all other checks, and before the method is performed (section 13.2.1).
abbrev pub stage : Reason → ℕ
stage InvalidHost = 0
stage Misdirected = 1
stage Preflight = 2
stage Denied = 3
stage UnknownMethod = 4
stage MethodNotAllowed = 5
stage UnmetExpectation = 6
stage PartialContent = 7
stage Moved = 8
stage Gone = 8
stage NotFound = 8
stage Options = 9
stage LengthRequired = 10
stage ContentTooLarge = 10
stage UnsupportedMediaType = 11
stage UnsupportedCoding = 12
stage NotAcceptable = 13
stage PreconditionRequired = 14
stage Admitted = 15

-- one reason comes before another
abbrev pub Before : Reason → Reason → Type 0
Before r s = stage r < stage s

-- the reason applies, and none that comes before it does
pub record IsFirst (applies : Reason → Bool) (reason : Reason) : Type 0 where
  pub is : applies reason ≡ true
  pub none_before : (other : Reason) → Before other reason → applies other ≡ false

-- ---- how it is found

-- the reasons in one order that keeps to the stages
abbrev pub in_order : List Reason
in_order =
    InvalidHost ∷ Misdirected ∷ Preflight ∷ Denied ∷ UnknownMethod ∷ MethodNotAllowed ∷ UnmetExpectation
    ∷ PartialContent ∷ Moved ∷ Gone ∷ NotFound ∷ Options ∷ LengthRequired ∷ ContentTooLarge ∷ UnsupportedMediaType
    ∷ UnsupportedCoding ∷ NotAcceptable ∷ PreconditionRequired ∷ []

-- the first that applies, or else that nothing prevents the method
abbrev pub or_admitted : Option Reason → Reason
or_admitted None = Admitted
or_admitted (Some reason) = reason
