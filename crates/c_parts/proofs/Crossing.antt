-- What a handle owns may go to another thread: it names none.
use Rattle.std.specs.Prelude.{Option, Some, None}
use mir.Raw.{raw}
use base.Shift.{Keyless}
use denote.{Memory.lone, Param.Send.IsSend, RattleType.RattleType, RawPtr.Ptr}
use Rattle.std.proofs.Crossing as heap
use Rattle.{std_alloc.proofs.SendSync.lies, c_parts.specs.Ownership.{global, handle_owns}}

pub handle_keyless : (R : RattleType) → IsSend R → (at : Ptr) (has : Option R.Denot) → Keyless (handle_owns R at has)
handle_keyless R send at None = tt
handle_keyless R send at (Some held) = (lies R send at held, heap.frees.frees global (raw (lone R.mir)) at)
