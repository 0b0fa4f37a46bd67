-- What is told of an answer.
use Rattle.std.{specs.Prelude.{◌≡◌, ℕ, List, [], Option, Some, None, is_some}, specs.Option.option_map_or}
use Rattle.decide_preconditions.{specs.Plans.parts_sent, specs.declared.part.Part.Part, specs.declared.plan.Plan.Plan}
use Rattle.decide_preconditions.specs.declared.plan.Plan.TheVariants as plan
use Rattle.decide_resource.{specs.declared.answer.Answer.Answer, specs.declared.answer.Sends.Sends}
use Rattle.decide_resource.specs.declared.answer.Sends.TheVariants as sends
use Rattle.decide_resource.specs.declared.reason.Reason.{Reason}
use Rattle.decide_resource.specs.declared.reason.Reason.TheVariants as reason
use Rattle.{c_decisions.specs.Flags.flag_of, c_resource.specs.declared.shown.AnswerFacts.AnswerFacts}

-- the number of each reason in typed_headers.h
abbrev pub reason_number : Reason → ℕ
reason_number reason.Admitted = 0
reason_number reason.InvalidHost = 1
reason_number reason.Misdirected = 2
reason_number reason.UnknownMethod = 3
reason_number reason.MethodNotAllowed = 4
reason_number reason.Options = 5
reason_number reason.UnmetExpectation = 6
reason_number reason.Moved = 7
reason_number reason.Gone = 8
reason_number reason.NotFound = 9
reason_number reason.LengthRequired = 10
reason_number reason.ContentTooLarge = 11
reason_number reason.UnsupportedMediaType = 12
reason_number reason.UnsupportedCoding = 13
reason_number reason.NotAcceptable = 14
reason_number reason.PreconditionRequired = 15
reason_number reason.PartialContent = 16
reason_number reason.Preflight = 17
reason_number reason.Denied = 18

-- what is sent of a representation: nothing, all, or parts
abbrev pub plan_number : Plan → ℕ
plan_number plan.NotModified = 0
plan_number plan.Failed = 0
plan_number plan.Unsatisfiable = 0
plan_number plan.Full = 2
plan_number (plan.Single part) = 3
plan_number (plan.Multiple parts) = 3

-- what is sent: nothing of the resource, a list of its representations, something of one, or what comes of the method
abbrev pub sends_number : Sends → ℕ
sends_number sends.Nothing = 0
sends_number sends.Alternatives = 1
sends_number (sends.Planned place plan) = plan_number plan
sends_number sends.Perform = 4

abbrev pub status_number : Option ℕ → ℕ
status_number None = 0
status_number (Some status) = status

-- the place of the representation that is sent, if there is one
abbrev pub place_of : Sends → Option ℕ
place_of sends.Nothing = None
place_of sends.Alternatives = None
place_of (sends.Planned place plan) = place
place_of sends.Perform = None

-- the parts that are sent, if not all is
abbrev pub parts_of : Sends → List Part
parts_of sends.Nothing = []
parts_of sends.Alternatives = []
parts_of (sends.Planned place plan) = parts_sent plan
parts_of sends.Perform = []

pub record IsTold (answer : Answer) (facts : AnswerFacts) : Type 0 where
  pub place : facts.place ≡ option_map_or (λ (place : ℕ). place) (place_of answer.sends) 0
  pub has_place : facts.has_place ≡ flag_of (is_some (place_of answer.sends))
  pub status : facts.status ≡ status_number answer.status
  pub reason : facts.reason ≡ reason_number answer.reason
  pub sends : facts.sends ≡ sends_number answer.sends
