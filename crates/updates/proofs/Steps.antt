-- What each event keeps.
use Rattle.std.proofs.Common.{◌≡◌, ℕ, suc, true, List, [], ◌∷◌, ◌++◌, Option, Some, None, refl, sym, ap, ◌∙◌}
use Rattle.std.proofs.{Common.{append_assoc, arith, slice_get}, lemmas.{Bool.cond_both, Slice.Eq.bytes_eq-Decides}}
use Rattle.{std.specs.Prelude.⊤, updates.specs.Events.{happens, Event, Event.{SendsPut, Freshens, Answers, Returns}}}
use Rattle.updates.specs.{Events.{Event.Arrives, acts, run, place_of, found_at, sends_stored}, Statements.Has}
use Rattle.updates.specs.Worlds.{Version, Request, Request.{Get, Puts}, Response, Response.{Status200, Status204}}
use Rattle.updates.specs.Worlds.{Response.Status304, Hop, Message, Message.{Going, Coming}, Received, Change, World}
use Rattle.updates.{specs.Worlds.{given, start, versions, is_true}, proofs.Lists.{Has_right, Has_found, IfFound}}
use Rattle.updates.proofs.Lists.{slice_get_push}

-- ---- what holds of each world

-- a PUT is made of what its client has been given
abbrev IsOfGiven : List Received → Request → Type 0
IsOfGiven received (Get client written) = ⊤
IsOfGiven received (Puts put) = Has (given put.client received) put.read

-- what a response shows is a version, and that of a 204 has the content of the PUT
abbrev pub IsTrue : World → Request → Response → Type 0
IsTrue w request (Status200 v) = Has (versions w) v
IsTrue w (Puts put) (Status204 v) = Has (versions w) v × (v.content ≡ put.content)
IsTrue w request (Status204 v) = Has (versions w) v
IsTrue w request response = ⊤

abbrev pub Fine : World → Message → Type 0
Fine w (Going passed request) = IsOfGiven w.received request
Fine w (Coming left request response) = IsTrue w request response

-- a change is of what its client had been given, and its condition was true
abbrev pub IsDone : World → Change → Type 0
IsDone w change =
    Has (given change.put.client w.received) change.put.read × (is_true change.put.condition change.replaced ≡ true)

-- each change replaced what the one before made
abbrev pub Links : Version → List Change → Version → Type 0
Links first [] current = current ≡ first
Links first (change ∷ earlier) current = (change.made ≡ current) × (change.made.number ≡ suc change.replaced.number)
    × (change.made.content ≡ change.put.content) × Links first earlier change.replaced

pub record Holds (first : Version) (w : World) : Type 0 where
  pub stored : (n k : ℕ) → IfFound (Has (versions w)) (slice_get (w.nodes n).stored k)
  pub received : (one : Received) → Has w.received one → IsTrue w one.request one.response
  pub messages : (k : ℕ) → IfFound (Fine w) (slice_get w.messages k)
  pub changes : (change : Change) → Has w.changes change → IsDone w change
  pub linked : Links first w.changes w.current

-- ---- steps

module _ {first : Version} {w : World} (holds : Holds first w) where
  stored_holds : (response : Version → Response) (passed : List Hop) (request : Request) (o : Option Version)
      → IfFound (λ v. IsTrue w request (response v)) o → Holds first (sends_stored response passed request o w)
  stored_holds response passed request None fine = holds
  stored_holds response passed request (Some v) fine = grind (arith, slice_get_push)

  acts_holds : (event : Event) (o : Option Message) → IfFound (Fine w) o → Holds first (acts event o w)
  acts_holds (SendsPut client which guard content) o fine = grind (arith, slice_get_push, Has_found)
  acts_holds (Freshens message which) (Some (Coming (hop ∷ left) request (Status304 named))) fine =
      stored_holds Status200 left request _ (grind (arith, holds.stored hop.node which))
  acts_holds (Returns message removes stores) (Some (Coming (hop ∷ left) request response)) fine =
      grind (arith, slice_get_push, holds.received)
  acts_holds (Arrives message) (Some (Coming [] request response)) fine = grind (arith, Has_right, holds.received)
  acts_holds event o fine = grind (arith, slice_get_push, bytes_eq-Decides)

run-holds : {first : Version} (events : List Event) {w : World} → Holds first w → Holds first (run events w)
run-holds [] holds = holds
run-holds (event ∷ events) holds = run-holds events (grind (arith, acts_holds holds event, holds.messages))

-- after any events
pub holds : (first : Version) (events : List Event) → Holds first (run events (start first))
holds first events = run-holds events (grind arith)

-- ---- changes are only added

abbrev pub Keeps : World → World → Type 0
Keeps w v = (newer : List Change) × (v.changes ≡ newer ++ w.changes)

acts_keeps : (w : World) (event : Event) (o : Option Message) → Keeps w (acts event o w)
acts_keeps w (Answers message etag says_applied) (Some (Going passed (Puts put))) =
    cond_both (is_true put.condition w.current) _ _ (Keeps w) (λ e. (_ ∷ [], refl)) (λ e. ([], refl))
acts_keeps w event o = ([], grind arith)

pub run_keeps : (events : List Event) (w : World) → Keeps w (run events w)
run_keeps [] w = ([], refl)
run_keeps (event ∷ events) w =
    let one = acts_keeps w event (found_at (place_of event) w.messages) in
    let rest = run_keeps events (happens w event) in
    (rest.0 ++ one.0, rest.1 ∙ ap (λ c. rest.0 ++ c) one.1 ∙ sym (append_assoc rest.0 one.0 w.changes))
