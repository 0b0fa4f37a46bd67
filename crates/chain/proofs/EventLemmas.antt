-- What the origin server does with a PUT is an event.
use Rattle.std.proofs.Common.{◌≡◌, ℕ, Bool, true, false, cond, List, slice_get, Option, Some, ap, ◌∙◌}
use Rattle.updates.specs.Events.{acts, happens, made_of, performs, refusal, sends}
use Rattle.updates.{specs.Events.Event.Answers, specs.Worlds.{Condition, Hop, Message, Put, World, is_true}}
use Rattle.updates.specs.Worlds.{Condition.IfMatch, Message.{Coming, Going}, Request.Puts, Response.Status204}

pub performs-event : (world : World) (message : ℕ) (passed : List Hop) (put : Put) (etag new : List ℕ)
    → slice_get world.messages message ≡ Some (Going passed (Puts put)) → put.condition ≡ IfMatch etag
    → is_true (IfMatch etag) world.current ≡ true → happens world (Answers message new false)
    ≡ sends (Coming passed (Puts put) (Status204 (made_of put new world))) (performs put (made_of put new world) world)
performs-event world message passed put etag new at condition holds =
    ap (λ (o : Option Message). acts (Answers message new false) o world) at
    ∙ ap (λ (b : Bool). cond b
    (sends (Coming passed (Puts put) (Status204 (made_of put new world))) (performs put (made_of put new world) world))
    (sends (Coming passed (Puts put) (refusal false put world.current)) world))
    (ap (λ (c : Condition). is_true c world.current) condition ∙ holds)
