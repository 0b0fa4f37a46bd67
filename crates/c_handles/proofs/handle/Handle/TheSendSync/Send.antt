-- A handle may go to another thread.
use denote.{Struct.{Struct.exits_of, Owning.{shape, fields, to}}, Param.Send.{IsSend, AllSend, owning_send}}
use denote.Param.Send.{struct_send, sendable}
use Rattle.{std_alloc.proofs.SendSync.quiet, c_parts.proofs.Crossing.handle_keyless}
use Rattle.c_handles.specs.contracts.held.Held as Held
use Rattle.c_handles.proofs.held.Held.TheSendSync.{the_send as held}
use Rattle.c_handles.specs.contracts.handle.Handle.{the_row, the_type}

pub send : IsSend the_row
send =
    let all : AllSend (fields the_type) = search sendable in
    owning_send the_type all (λ d. handle_keyless Held.the_row held d.at d.held)
    (λ k. quiet (to the_type) (exits_of k (fields the_type)) ((struct_send (shape the_type) all).leaving k))
