use Rattle.gateway_messages.proofs.RecipientLemmas.{merged_alike, merged_lines}
use Rattle.gateway_messages.proofs.laws.trailers_may_be_merged.Goals as goal

pub returns-clause-framing : goal.returns-clause-framing
returns-clause-framing c gateway framing message received fields trailers recipient p k =
    merged_alike gateway fields trailers recipient k (λ name h. p.header_only name h)

pub returns-clause-names : goal.returns-clause-names
returns-clause-names c gateway framing message received fields trailers name p h =
    merged_lines fields trailers name (p.header_only name h)
