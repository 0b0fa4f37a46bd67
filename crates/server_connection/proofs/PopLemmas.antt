-- What a step of sending does, once its piece was taken from those that are left.
use Rattle.std.proofs.Common.{◌≡◌, ℕ, List, [], sym, subst, append-nil, inl, inr}
use Rattle.server_connection.{specs.declared.machine.Machine.Machine, specs.declared.piece.Piece.Piece}
use Rattle.server_connection.{specs.Machine.{CutsOff, PutsBytes, SendsOn}, specs.Pieces.{Advances, Gives}}

-- the two differ in what is left alone
abbrev pub IsPopped : Machine → Machine → Type 0
IsPopped old mid = mid ≡ record old { left = mid.left }

pub cut_from : (old : Machine) {mid new : Machine} → CutsOff mid new → IsPopped old mid → CutsOff old new
cut_from old {new = new} cut popped = let x = subst (λ (m : Machine). CutsOff m new) popped cut in assumption

module _ (gives : Gives) (old : Machine) where
  -- bytes are put into the output
  pub puts_on : {mid new : Machine} {bytes : List ℕ} {after : List Piece} → PutsBytes mid bytes after new
      → IsPopped old mid → Advances gives old.left.items bytes new.left.items → SendsOn gives old new
  puts_on {new = new} {bytes = bytes} {after = after} puts popped advances =
      let x = subst (λ (m : Machine). PutsBytes m bytes after new) popped puts in
      inl (record { bytes = bytes; advances = advances; puts = assumption })

  -- nothing is sent
  pub skips_on : {mid new : Machine} → new ≡ mid → IsPopped old mid → Advances gives old.left.items [] new.left.items
      → SendsOn gives old new
  skips_on {mid} same popped advances =
      let nil = sym (append-nil mid.output.items) in
      let none : PutsBytes mid [] mid.left.items mid = assumption in
      puts_on (subst (λ (m : Machine). PutsBytes mid [] mid.left.items m) (sym same) none) popped advances

  -- the response is cut off
  pub cuts_on : {mid new : Machine} → CutsOff mid new → IsPopped old mid → SendsOn gives old new
  cuts_on cut popped = inr (inr (cut_from old cut popped))
