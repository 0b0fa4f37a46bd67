-- What a step of a pass comes to: the number of what is done, and by what.
use Rattle.std.specs.Prelude.{Option, Some, None, true, false}
use Rattle.cache_pass.{specs.declared.replying.First.First, specs.declared.replying.Reply.Reply}
use Rattle.cache_pass.specs.declared.replying.First.TheVariants as first
use Rattle.cache_pass.specs.declared.revalidating.Next.{Next}
use Rattle.cache_pass.specs.declared.revalidating.Next.TheVariants as next
use Rattle.c_pass.specs.declared.outcome.{By.{By, TheVariants.{Nothing, Fields, Stored, Once}}, PassOutcome.PassOutcome}

-- a stored response is sent, as the reply says
abbrev pub by_reply : Reply → By
by_reply reply = Stored reply.number reply.answer

-- what the first step comes to
abbrev pub first_outcome : First → PassOutcome
first_outcome (first.Reply reply) = record { action = 0; by = by_reply reply }
first_outcome (first.ReplyAndValidate reply) = record { action = 1; by = by_reply reply }
first_outcome first.Ask = record { action = 2; by = Nothing }
first_outcome (first.Validate fields) = record { action = 3; by = Fields fields }
first_outcome first.Unavailable = record { action = 4; by = Nothing }

-- what it comes to that the origin has answered
abbrev pub next_outcome : Next → PassOutcome
next_outcome (next.Reply reply) = record { action = 0; by = by_reply reply }
next_outcome (next.Once stored answer) = record { action = 0; by = Once stored answer }
next_outcome next.Ask = record { action = 2; by = Nothing }
next_outcome (next.PassOn true) = record { action = 5; by = Nothing }
next_outcome (next.PassOn false) = record { action = 6; by = Nothing }

-- what it comes to that no response came
abbrev pub failed_outcome : Option Reply → PassOutcome
failed_outcome (Some reply) = record { action = 0; by = by_reply reply }
failed_outcome None = record { action = 7; by = Nothing }
