-- `of_raw_box` moves the pointer, and what it owns goes with it. Assumes `Logic`.
use Rattle.std.proofs.{Common.{◌≡◌, List, [], ◌∷◌, ◌++◌, refl}, raw_atomic.Walks.{proved_at, leaves}}
use Rattle.{std.specs.Prelude.{Some, true}, core.proofs.alloc.Calls.Goes-blank}
use mir.{Syntax.Fn, Val.{Val, vptr}}
use base.{Logic.{SProp, emp}, Fml.ftrue}
use prog.Wp.{WpFn}
use contract.{Monad.{fact, fact_i}, Running.tables}
use types.{Kit.{‵, raw, ◌⊛◌, prop, ◌$◌, ◌∵◌, !, qed, by, move, drop, use0, split, regoal, fsplit, fjoin}, Part.whole}
use types.{Part.{sub, agg}, Run.{stop, fld, of_opd, true_lit, no_more, and_then, returns, enter}, ByLocal.alloc_all}
use types.ByLocal.{pass_all, free_all, look_at, get, get_in, sets}
use denote.{RattleType.owns, RawPtr.block_ptr, Signature.{types_at, plain}, Steps.nothing, Triple.Entry.alive}
use denote.Triple.Walked.{Stays, stay_dropped, walk_of}
use Rattle.std_heap.specs.contracts.Global as Heap
use Rattle.std_heap.specs.contracts.GlobalAllocator.TheImpl.{ghosts}
use Rattle.std_heap.proofs.Global.TheLaws as heap
use Rattle.c_handles.specs.contracts.held.Held as Stored
use Rattle.c_parts.specs.contracts.raw_box.RawBox as raw_box
use Rattle.c_handles.specs.contracts.handle.Handle as handle
use Rattle.c_parts.proofs.HandleValues.{both, loose_good, loose_out, flagged_val, flagged_own, flagged_made}
use Rattle.c_parts.proofs.HandleValues.{flagged_typed}
use Rattle.c_handles.specs.contracts.handle.Handle.of_raw_box.{ended, clauses}
use Rattle.c_handles.specs.contracts.handle.Handle.of_raw_box.Key.{name as #self}
use Rattle.c_handles.proofs.handle.Handle.of_raw_box.Statement.{statement}
use Rattle.c_handles.proofs.handle.Handle.of_raw_box.Code as compiled

pub of_raw_box_spec : {M : Type 1} → statement M
of_raw_box_spec 𝓤 𝓛 𝓜 𝓡 wired =
    let H = 𝓛.H in
    let c = clauses 𝓛 𝓜.mem 𝓡.returns in
    let fn : Fn = compiled.function in
    let Slotted = plain (λ _. raw_box.the_row Stored.the_row Heap.the_row ghosts) in
    let stays : Stays ended.signature.params ended.kept = (stay_dropped Slotted ended.kept.0, tt) in
    let C = (tables 𝓤 H 𝓜 𝓡 𝓡.env).C in
    let Λ = (tables 𝓤 H 𝓜 𝓡 𝓡.env).Λ in
    proved_at 𝓛 ended stays c 𝓜 𝓡 (Goes-blank 𝓛 0 Slotted ended.kept.0 (λ κs x f. tt), tt) #self fn
    (compiled.unfolded 𝓤 H 𝓜 𝓡 wired) (λ z are.
    let Post : Val → SProp 𝓤 = (walk_of 𝓛 ended stays c).post z in
    let x = z.0.3.0 in
    qed 𝓛 ((raw (alive 𝓛 ended.signature z.0.0 z.0.1) ⊛ ‵ (owns
    (types_at ended.signature.params z.0.0) z.0.3 z.0.4)) ∷ ‵ ftrue ∷ []) ∵ move ! (1 ∷ []) $ drop ! $ split ! $ move !
    (1 ∷ []) $ fsplit ! $ loose_out Stored.the_row Heap.the_row heap.the_row_laws ghosts ! x z.0.4.0 (λ b o h e ws fits.
    let made : (handle.the_row).Denot = record {
      at = block_ptr b o;
      is_open = true;
      held = Some x.value;
      opened = refl;
    } in
    move ! (1 ∷ 2 ∷ []) $ drop ! $ drop ! $ regoal ! (λ (us : List Val). prop (WpFn 𝓤 H C Λ fn us Post))
    (λ i. ws i ++ []) refl $ enter ! C Λ fn (both (vptr b o) h ∷ []) Post $ alloc_all !
    (λ l. pass_all ! refl (loose_good Stored.the_row Heap.the_row heap.the_row_laws ghosts b o h fits, tt) $
    sets ! (of_opd ! (get_in ! (fld ! refl (stop !)) (sub ! 0 refl (whole !)))) refl (tt, tt) $
    sets ! (of_opd ! (get ! refl)) refl (tt, tt) $
    sets ! (agg ! (and_then ! (get ! refl) (and_then ! (true_lit !) (no_more !)))) refl (flagged_typed
    (block_ptr b o) true) $ returns ! (look_at ! 0 refl) $ free_all ! refl $
    use0 𝓛 (‵ (flagged_own (block_ptr b o) true (flagged_val (block_ptr b o) true ∷ []))) (flagged_made 𝓛
    (block_ptr b o) true) $ fjoin ! $
    use0 𝓛 (raw (fact 𝓤 (made.held ≡ Some x.value))) (fact_i 𝓤 (made.held ≡ Some x.value) (emp 𝓤) refl) $
    nothing ! $ nothing ! $ fjoin ! $ move ! (3 ∷ 0 ∷ 2 ∷ 1 ∷ []) $
    by ! (leaves 𝓛 ended stays c z (flagged_val (block_ptr b o) true) made (tt, tt) (tt, tt)))))
