-- An answer depends on the representations, and not on where their list is stored.
use Rattle.std.{proofs.Common.{arith, ◌≡◌, ℕ, Bool, true, false, List, Option, refl}, specs.Prelude.nat_lt}
use Rattle.{std.specs.Global.Vec, headers.specs.LineMap.{Field, LineMap}, decide_resource.specs.Answers.{GivesIf, Goes}}
use Rattle.decide_resource.specs.{Answers.{GoesOn, IsAnswer, IsSelected, is_admitted}, Applies.applies}
use Rattle.decide_resource.specs.{Applies.is_unacceptable, Fields.reason_fields, Reasons.IsFirst, Requests.Request}
use Rattle.decide_resource.specs.declared.{answer.{Answer.Answer, Sends.Sends}, reason.Reason.Reason}
use Rattle.decide_resource.specs.declared.{representation.Representation.Representation, resource.Resource.Resource}

module _ (now : ℕ) (resource : Resource) (v w : Vec Representation) (e : v.items ≡ w.items) (request : Request) where
  abbrev first : Resource
  first = record resource { representations = v }

  abbrev second : Resource
  second = record resource { representations = w }

  unacceptable : is_unacceptable first request ≡ is_unacceptable second request
  unfolding is_unacceptable
  unacceptable = grind (arith, resource, nat_lt)

  same_test : (reason : Reason) → applies now first request reason ≡ applies now second request reason
  same_test reason = grind (arith, reason, unacceptable)

  same_fields : (reason : Reason) → reason_fields first request reason ≡ reason_fields second request reason
  same_fields Reason.NotAcceptable = refl
  same_fields reason = refl

  same_first : (reason : Reason) → IsFirst (applies now first request) reason
      → IsFirst (applies now second request) reason
  same_first reason h = grind (arith, same_test, reason)

  same_selected : (fields : LineMap) (place : Option ℕ) → IsSelected first fields place → IsSelected second fields place
  same_selected fields place h = grind (arith, resource)

  same_going : (place : Option ℕ) (representation : Option Representation) (status : Option ℕ) (sent : Sends)
      (fields : List Field) → GoesOn now first request place representation status sent fields
      → GoesOn now second request place representation status sent fields
  same_going place representation status sent fields h = grind (arith)

  same_goes : (status : Option ℕ) (sent : Sends) (fields : List Field)
      → Goes now first request status sent fields → Goes now second request status sent fields
  same_goes status sent fields h = grind (arith, same_selected, same_going)

  same_given : (admitted : Bool) (reason : Reason) (status : Option ℕ) (sent : Sends) (fields : List Field)
      → GivesIf admitted now first request reason status sent fields
      → GivesIf admitted now second request reason status sent fields
  same_given true reason status sent fields h = same_goes status sent fields h
  same_given false reason status sent fields h = grind (arith, same_fields, reason)

  -- an answer is one where the list of the same representations is stored elsewhere
  pub same_answer : (answer : Answer) → IsAnswer now first request answer → IsAnswer now second request answer
  same_answer answer h = record {
    first = same_first answer.reason h.first;
    own = h.own;
    gives = same_given (is_admitted answer.reason) answer.reason answer.status answer.sends h.own h.gives;
    shared = h.shared;
    is_shared = h.is_shared;
    fields = h.fields;
  }
