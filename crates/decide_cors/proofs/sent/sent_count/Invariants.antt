use Rattle.{std.{proofs.Common.{◌≡◌, ◌+◌, drop}, specs.List.prefix_len}, http_header.specs.FieldValue.FieldValue}
use Rattle.decide_cors.specs.SentOrigins.{is_sent}
use Rattle.decide_cors.proofs.sent.sent_count.Given as goal

abbrev pub invariant-loop-place : goal.invariant-loop-place
invariant-loop-place l = prefix_len (λ (origin : FieldValue). is_sent origin.bytes) l.listed
    ≡ l.place + prefix_len (λ (origin : FieldValue). is_sent origin.bytes) (drop l.place l.listed)
