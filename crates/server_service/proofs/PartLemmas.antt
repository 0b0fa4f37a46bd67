-- A part holds no bytes that the content doesn't.
use Rattle.std.proofs.Common.{◌≡◌, ℕ, ◌+◌, ◌-◌, ◌<◌, List, [], ◌∷◌, length, drop, get_or, arith, ap, sym, ◌∙◌, subst}
use Rattle.std.proofs.{Common.{Option, Some, length-drop, true, false, refl, inl, inr}, lemmas.List.get_or-drop}
use Rattle.std.{proofs.lemmas.List.{get_or-take, length-take}, specs.Prelude.{codes, slice_range}}
use Rattle.{memchr.specs.Find.OccursAt, headers.specs.LineMap.LineMap}
use Rattle.decide_preconditions.specs.{Contents.{divisible_len, limits_of}, Plans.IsPlan}
use Rattle.decide_preconditions.specs.declared.{limits.RangeLimits.RangeLimits, part.Part.Part, plan.Plan.Plan}
use Rattle.decide_preconditions.specs.declared.plan.Plan.TheVariants.{NotModified, Failed, Full, Single, Multiple}
use Rattle.decide_preconditions.specs.declared.plan.Plan.TheVariants.{Unsatisfiable}
use Rattle.decide_preconditions.specs.declared.resource.TargetState.{TargetState as Target}
use Rattle.decide_resource.specs.Answers.{at_place, content_of, target_of}
use Rattle.decide_resource.specs.Requests.{Request as Asked, head_of as as_head}
use Rattle.decide_resource.specs.declared.answer.{Answer.Answer, Sends.{Sends, TheVariants.{Nothing, Alternatives}}}
use Rattle.decide_resource.specs.declared.{answer.Sends.TheVariants.{Planned, Perform}, resource.Resource.Resource}
use Rattle.server_service.specs.{Answer.{Decides, IsHeldBy, file_sent, is_several, sends_several}, Parts.IsKnownToHold}
use Rattle.server_service.specs.{Parts.{Occurs, part_bytes}, declared.{file.File.File, source.Source.Source}}
use Rattle.server_files.specs.declared.kept.Kept.{Kept}
use Rattle.server_service.specs.declared.source.Source.TheVariants.{Kept as InMemory}
use Rattle.server_service.proofs.AnswerLemmas.{IsPlannedIn, planned_in}

OccursAt-from_slice : (content bytes : List ℕ) (a b k : ℕ) → 0 < length bytes
    → OccursAt (slice_range content a b) bytes k → OccursAt content bytes (a + k)
OccursAt-from_slice content bytes a b k some h =
    let cut = length-take (b - a) (drop a content) in
    let rest = length-drop a content in
    let fits = h.fits in
    record {
      fits = omega (arith, cut, rest, fits);
      reads = λ j within.
          let inside : k + j < b - a = omega (arith, cut, fits) in
          let place : a + k + j ≡ a + (k + j) = omega arith in
          ap (λ (i : ℕ). get_or content i 0) place
          ∙ sym (get_or-drop a content (k + j) 0)
          ∙ sym (get_or-take (b - a) (drop a content) (k + j) 0 inside)
          ∙ h.reads j within;
    }

no_part_holds : (content bytes : List ℕ) (part : Part) → ¬ (Occurs bytes content)
    → ¬ (Occurs bytes (part_bytes content part))
no_part_holds content [] part none o = none (0, record { fits = omega arith; reads = λ j within. absurd (omega arith) })
no_part_holds content (byte ∷ bytes) part none o = none (
  part.first + o.0,
  OccursAt-from_slice content (byte ∷ bytes) part.first (part.last + 1) o.0 (omega arith) o.1,
)

-- a HEAD has no parts
head_has_none : (present : ℕ) (request : LineMap) (resource : Target) (len : ℕ) (limits : RangeLimits)
    (plan : Plan) → IsPlan present (codes "HEAD") request resource len limits plan → is_several plan ≡ false
head_has_none present request resource len limits Full h = refl
head_has_none present request resource len limits (Single part) h = refl
head_has_none present request resource len limits (Multiple parts) h =
    let get = h.2.asks.applies.is_get in absurd (cc get)
head_has_none present request resource len limits NotModified h = refl
head_has_none present request resource len limits Failed h = refl
head_has_none present request resource len limits Unsatisfiable h = refl

-- nor has the answer to one
head_sends_none : (present : ℕ) (resource : Resource) (asked : Asked) (sent : Sends)
    → IsPlannedIn present resource (as_head asked) sent → sends_several sent ≡ false
head_sends_none present resource asked Nothing h = refl
head_sends_none present resource asked Alternatives h = refl
head_sends_none present resource asked (Planned place plan) h =
    let representation = at_place resource.representations.items place in
    head_has_none present asked.fields (target_of resource.state representation)
    (divisible_len (content_of representation)) (limits_of (content_of representation)) plan h
head_sends_none present resource asked Perform h = refl

pub no_part_holds_boundary : (present : ℕ) (divider : List ℕ) (files : List File) (resource : Resource)
    (asked : Asked) (answer : Answer) (file : File) (kept : Kept) → Decides present divider files resource asked answer
    → sends_several answer.sends ≡ true → file_sent files answer.sends ≡ Some file → file.source ≡ InMemory kept
    → (part : Part) → ¬ (Occurs divider (part_bytes kept.content part))
no_part_holds_boundary present divider files resource asked answer file kept h several sent memory part = elim h [
  | inl sendable ↦
      no_part_holds kept.content divider part (subst (λ (source : Source). ¬ (IsKnownToHold source divider)) memory
      (subst (λ (of : Option File). ¬ (IsHeldBy divider of)) sent (sendable.0 several)))
  | inr whole ↦
      let none = head_sends_none present resource asked answer.sends
      (planned_in present resource (as_head asked) answer whole.3) in
      absurd (cc (none, several))
]
