use Rattle.{std.proofs.Common.{◌≡◌, true, List, refl, sym, ◌∙◌, ap}, headers.specs.LineMap.LineMap}
use Rattle.gateway_messages.specs.{FieldLines.{Field, fields_of}, Recipients.{accepted_by, framing_by}}
use Rattle.gateway_messages.specs.declared.expectation.Expectation.{Expectation, TheVariants.{Absent, Forwarded}}
use Rattle.gateway_messages.specs.declared.expectation.Expectation.TheVariants.{Answered}
use Rattle.gateway_hops.{specs.{Replaced.frame_nothing, Sent.{Hop, hop_fields}}, proofs.ReplacedLemmas.replaced_framing}
use Rattle.gateway_hops.proofs.laws.sent_request_is_framed_alike.Goals as goal

-- none of the fields for the next server frames the message
frames_nothing : (hop : Hop) (expectation : Expectation) (received : LineMap)
    → frame_nothing (hop_fields hop.connection hop.forwarding hop.arrival expectation received) ≡ true
frames_nothing hop Absent received = refl
frames_nothing hop Forwarded received = refl
frames_nothing hop Answered received = refl

pub returns : goal.returns
returns c gateway hop request sent recipient p k = ap (λ (fields : List Field). framing_by recipient fields) p.fields
    ∙ replaced_framing (hop_fields hop.connection hop.forwarding hop.arrival sent.expectation request.fields)
    (fields_of p.forwarded.fields.items) recipient (frames_nothing hop sent.expectation request.fields) k
    ∙ c.forwarded_request_is_framed_alike.ensures gateway request p.forwarded recipient p.forwards k
    ∙ ap (accepted_by recipient) (sym p.framing)
