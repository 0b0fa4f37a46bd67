-- A view may go to another thread.
use Rattle.{std.specs.Prelude.{ℕ, [], ◌∷◌, Option, Some, None}, std_alloc.proofs.SendSync.{quiet, seen}}
use Rattle.c_handles.specs.Ownership.{loan_owns}
use base.Shift.{Keyless}
use denote.{Param.Send.{IsSend, AllSend, owning_send, struct_send, sendable}, RawPtr.Ptr}
use denote.Struct.{Struct.exits_of, Owning.{shape, fields, to}}
use Rattle.c_handles.specs.contracts.held.Held as Held
use Rattle.c_handles.{proofs.held.Held.TheSendSync.the_sync, specs.contracts.view.View.{the_row, the_type}}

loan_keyless : (at : Ptr) (has : Option Held.the_row.Denot) (life parts : ℕ) → Keyless (loan_owns at has life parts)
loan_keyless at None life parts = tt
loan_keyless at (Some held) life parts = ((λ e c. tt), seen Held.the_row the_sync at held (life ∷ []))

pub send : IsSend the_row
send =
    let all : AllSend (fields the_type) = search sendable in
    owning_send the_type all (λ d. loan_keyless d.at d.held d.life d.parts)
    (λ k. quiet (to the_type) (exits_of k (fields the_type)) ((struct_send (shape the_type) all).leaving k))
