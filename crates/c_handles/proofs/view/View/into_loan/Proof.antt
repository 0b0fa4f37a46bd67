-- `into_loan` moves the two fields, and the right to read goes with the pointer. Assumes `Logic`.
use Rattle.std.proofs.{Common.{◌≡◌, List, [], ◌∷◌, ◌++◌, refl}, raw_atomic.Walks.{proved_at, leaves}}
use Rattle.{std.specs.Prelude.is_some, core.proofs.alloc.Calls.Goes-blank, std_alloc.proofs.Pairs.{pair_of, pair_val}}
use Rattle.{std_alloc.proofs.Pairs.pair_Typed, c_parts.proofs.HandleValues.{flagged_val, flagged_told, flagged_typed}}
use Rattle.c_parts.proofs.HandleValues.{lone_val, lone_own, lone_made, lone_typed, ptr_typed}
use mir.{Syntax.{Fn, ty_bool, ty_ptr, ty_struct, tcons, tnil}, Val.{Val, vbool}}
use base.{Logic.{SProp, emp}, Fml.ftrue}
use prog.Wp.{WpFn}
use contract.{Monad.{fact, fact_i}, Running.tables}
use types.Kit.{‵, raw, ◌⊛◌, prop, ◌$◌, ◌∵◌, !, qed, by, move, drop, use0, use2, split, join, regoal, fsplit, fjoin}
use types.{Kit.feq_i, Part.{whole, sub, agg}, Run.{stop, fld, of_opd, no_more, and_then, returns, enter}}
use types.ByLocal.{alloc_all, pass_all, free_all, look_at, get, get_in, sets}
use denote.{RattleType.owns, Builtin.bool, Signature.{types_at, plain}, Steps.nothing, Triple.Entry.alive}
use denote.{Triple.Walked.{Stays, stay_dropped, walk_of}, Struct.Tuple.Tuple}
use Rattle.c_handles.specs.contracts.view.View as view
use Rattle.c_handles.specs.contracts.loan.Loan as loan
use Rattle.c_handles.specs.contracts.view.View.into_loan.{ended, clauses}
use Rattle.c_handles.specs.contracts.view.View.into_loan.Key.{name as #self}
use Rattle.c_handles.proofs.view.View.into_loan.Statement.{statement}
use Rattle.c_handles.proofs.view.View.into_loan.Code as compiled

pub into_loan_spec : {M : Type 1} → statement M
into_loan_spec 𝓤 𝓛 𝓜 𝓡 wired =
    let H = 𝓛.H in
    let c = clauses 𝓛 𝓜.mem 𝓡.returns in
    let fn : Fn = compiled.function in
    let stays : Stays ended.signature.params ended.kept = (
      stay_dropped (plain (λ _. view.the_row)) ended.kept.0,
      tt,
    ) in
    let C = (tables 𝓤 H 𝓜 𝓡 𝓡.env).C in
    let Λ = (tables 𝓤 H 𝓜 𝓡 𝓡.env).Λ in
    proved_at 𝓛 ended stays c 𝓜 𝓡 (
      Goes-blank 𝓛 0 (plain (λ _. view.the_row)) ended.kept.0 (λ κs x f. tt),
      tt,
    ) #self fn (compiled.unfolded 𝓤 H 𝓜 𝓡 wired) (λ z are.
    let Post : Val → SProp 𝓤 = (walk_of 𝓛 ended stays c).post z in
    let x = z.0.3.0 in
    let p = x.at in
    let t = x.is_open in
    let told = flagged_told p t z.0.4.0 are.0.0 in
    let Left = loan.the_row in
    let left : Left.Denot = record { at = p; held = x.held; life = x.life; parts = x.parts } in
    let made = pair_val (vbool t) (lone_val p) in
    qed 𝓛 ((raw (alive 𝓛 ended.signature z.0.0 z.0.1) ⊛ ‵ (owns
    (types_at ended.signature.params z.0.0) z.0.3 z.0.4)) ∷ ‵ ftrue ∷ []) ∵ move ! (1 ∷ []) $ drop ! $ split ! $ move !
    (1 ∷ []) $ fsplit ! $ fsplit ! $ drop ! $ move ! (1 ∷ []) $ drop ! $ regoal !
    (λ (us : List Val). prop (WpFn 𝓤 H C Λ fn us Post)) (λ i. told i ++ []) refl $ enter ! C Λ fn (flagged_val p t ∷ [])
    Post $ alloc_all ! (λ l. pass_all ! refl (flagged_typed p t, tt) $
    sets ! (of_opd ! (get_in ! (fld ! refl (stop !)) (sub ! 0 refl (whole !)))) refl (ptr_typed p) $
    sets ! (of_opd ! (get_in ! (fld ! refl (stop !)) (sub ! 1 refl (whole !)))) refl (tt, tt) $
    sets ! (agg ! (and_then ! (get ! refl) (no_more !))) refl (lone_typed p) $
    sets ! (agg ! (and_then ! (get ! refl) (and_then ! (get ! refl) (no_more !)))) refl (pair_Typed ty_bool
    (ty_struct [] (tcons ty_ptr tnil)) (vbool t) (lone_val p) (tt, tt) (lone_typed p)) $
    returns ! (look_at ! 0 refl) $ free_all ! refl $
    use0 𝓛 (‵ (lone_own p (lone_val p ∷ []))) (lone_made 𝓛 p) $ fjoin ! $
    feq_i ! (List Val) (vbool t ∷ []) (vbool t ∷ []) refl $
    use2 𝓛 (‵ ((Tuple (bool ∷ Left ∷ [])).own_val (t, left) (made ∷ [])))
    (pair_of 𝓛 bool Left t left (vbool t) (lone_val p)) $
    use0 𝓛 (raw (fact 𝓤 ((x.held ≡ x.held) × (x.life ≡ x.life) × (x.parts ≡ x.parts)))) (fact_i 𝓤
    ((x.held ≡ x.held) × (x.life ≡ x.life) × (x.parts ≡ x.parts)) (emp 𝓤) (refl, refl, refl)) $
    use0 𝓛 (raw (fact 𝓤 (t ≡ is_some x.held))) (fact_i 𝓤 (t ≡ is_some x.held) (emp 𝓤) x.opened) $ join ! $
    nothing ! $ nothing ! $ fjoin ! $ move ! (3 ∷ 0 ∷ 2 ∷ 1 ∷ []) $
    by ! (leaves 𝓛 ended stays c z made (t, left) (tt, tt) (tt, tt))))
