-- `closed` makes a view that owns nothing. Assumes `Logic`.
use Rattle.std.{proofs.{Common.{◌≡◌, [], ◌∷◌, refl}, raw_atomic.Walks.{proved_at, leaves}}, specs.Prelude.{None, false}}
use Rattle.c_parts.proofs.HandleValues.{flagged_val, flagged_own, flagged_made, flagged_typed}
use mir.{Syntax.Fn, Val.Val}
use base.{Logic.{SProp, emp}, Fml.ftrue}
use contract.{Monad.{fact, fact_i}, Running.tables}
use types.{Kit.{‵, raw, ◌⊛◌, ◌$◌, ◌∵◌, !, qed, by, move, drop, use0, split, fjoin}, Part.agg, Run.{lit, false_lit}}
use types.{Run.{no_more, and_then, returns, enter}, ByLocal.{alloc_all, pass_all, free_all, look_at, sets}}
use denote.{RattleType.owns, RawPtr.null_ptr, Signature.types_at, Steps.nothing, Triple.{Entry.alive, Walked.Stays}}
use denote.Triple.Walked.{walk_of}
use Rattle.c_handles.specs.contracts.view.View as view
use Rattle.c_handles.specs.contracts.view.View.closed.{ended, clauses}
use Rattle.c_handles.specs.contracts.view.View.closed.Key.{name as #self}
use Rattle.c_handles.proofs.view.View.closed.Statement.{statement}
use Rattle.c_handles.proofs.view.View.closed.Code as compiled

pub closed_spec : {M : Type 1} → statement M
closed_spec 𝓤 𝓛 𝓜 𝓡 wired =
    let H = 𝓛.H in
    let c = clauses 𝓛 𝓜.mem 𝓡.returns in
    let fn : Fn = compiled.function in
    let stays : Stays ended.signature.params ended.kept = tt in
    let C = (tables 𝓤 H 𝓜 𝓡 𝓡.env).C in
    let Λ = (tables 𝓤 H 𝓜 𝓡 𝓡.env).Λ in
    proved_at 𝓛 ended stays c 𝓜 𝓡 tt #self fn (compiled.unfolded 𝓤 H 𝓜 𝓡 wired) (λ z are.
    let Post : Val → SProp 𝓤 = (walk_of 𝓛 ended stays c).post z in
    let made : (view.the_row).Denot =
    record { at = null_ptr; is_open = false; held = None; opened = refl; life = 0; parts = 0 } in
    qed 𝓛 ((raw (alive 𝓛 ended.signature z.0.0 z.0.1) ⊛ ‵ (owns
    (types_at ended.signature.params z.0.0) z.0.3 z.0.4)) ∷ ‵ ftrue ∷ []) ∵ move ! (1 ∷ []) $ drop ! $ split ! $ move !
    (1 ∷ []) $ drop ! $ enter ! C Λ fn [] Post $ alloc_all ! (λ l. pass_all ! refl tt $
    sets ! (agg ! (and_then ! (lit ! tt) (and_then ! (false_lit !) (no_more !)))) refl (flagged_typed null_ptr false) $
    returns ! (look_at ! 0 refl) $ free_all ! refl $
    nothing ! $ use0 𝓛 (‵ (flagged_own null_ptr false (flagged_val null_ptr false ∷ [])))
    (flagged_made 𝓛 null_ptr false) $ fjoin ! $
    use0 𝓛 (raw (fact 𝓤 (made.held ≡ None))) (fact_i 𝓤 (made.held ≡ None) (emp 𝓤) refl) $ nothing ! $
    move ! (3 ∷ 0 ∷ 2 ∷ 1 ∷ []) $ by ! (leaves 𝓛 ended stays c z (flagged_val null_ptr false) made tt tt)))
