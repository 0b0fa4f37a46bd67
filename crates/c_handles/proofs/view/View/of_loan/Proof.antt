-- `of_loan` moves the pointer beside the flag, and the right to read goes with it. Assumes `Logic`.
use Rattle.std.proofs.{Common.{◌≡◌, List, [], ◌∷◌, ◌++◌, refl}, raw_atomic.Walks.{proved_at, leaves}}
use Rattle.{std.specs.Prelude.is_some, core.proofs.alloc.Calls.Goes-blank, c_parts.proofs.HandleValues.flagged_val}
use Rattle.c_parts.proofs.HandleValues.{flagged_own, flagged_made, flagged_typed, lone_val, lone_told, lone_typed}
use Rattle.c_parts.proofs.HandleValues.{ptr_typed}
use mir.{Syntax.Fn, Val.{Val, vbool}}
use base.{Logic.{SProp, emp}}
use prog.Wp.{WpFn}
use contract.{Monad.{fact, fact_i}, Running.tables}
use types.Kit.{‵, raw, ◌⊛◌, prop, ◌$◌, ◌∵◌, !, qed, by, keep, move, drop, use0, split, regoal, fsplit, fjoin}
use types.{Part.{whole, sub, agg}, Run.{stop, fld, of_opd, no_more, and_then, returns, enter}, ByLocal.alloc_all}
use types.ByLocal.{pass_all, free_all, look_at, get, get_in, sets}
use denote.{RattleType.owns, Builtin.bool, Signature.{types_at, plain}, Steps.{nothing, heard}, Triple.Entry.alive}
use denote.Triple.Walked.{Stays, stay_dropped, walk_of, Goes-dropped}
use Rattle.c_handles.specs.contracts.loan.Loan as loan
use Rattle.c_handles.specs.contracts.view.View as view
use Rattle.c_handles.specs.contracts.view.View.of_loan.{ended, clauses}
use Rattle.c_handles.specs.contracts.view.View.of_loan.Key.{name as #self}
use Rattle.c_handles.proofs.view.View.of_loan.Statement.{statement}
use Rattle.c_handles.proofs.view.View.of_loan.Code as compiled

pub of_loan_spec : {M : Type 1} → statement M
of_loan_spec 𝓤 𝓛 𝓜 𝓡 wired =
    let H = 𝓛.H in
    let c = clauses 𝓛 𝓜.mem 𝓡.returns in
    let fn : Fn = compiled.function in
    let stays : Stays ended.signature.params ended.kept = (
      stay_dropped (plain (λ _. bool)) ended.kept.0,
      (stay_dropped (plain (λ _. loan.the_row)) ended.kept.1.0, tt),
    ) in
    let C = (tables 𝓤 H 𝓜 𝓡 𝓡.env).C in
    let Λ = (tables 𝓤 H 𝓜 𝓡 𝓡.env).Λ in
    proved_at 𝓛 ended stays c 𝓜 𝓡 (
      Goes-dropped 𝓛 0 (plain (λ _. bool)) ended.kept.0 (λ κs x f. refl),
      (Goes-blank 𝓛 0 (plain (λ _. loan.the_row)) ended.kept.1.0 (λ κs x f. tt), tt),
    ) #self fn (compiled.unfolded 𝓤 H 𝓜 𝓡 wired) (λ z are.
    let Post : Val → SProp 𝓤 = (walk_of 𝓛 ended stays c).post z in
    let t = z.0.3.0 in
    let x = z.0.3.1.0 in
    let p = x.at in
    let told = lone_told p z.0.4.1.0 are.1.0.0 in
    qed 𝓛 ((raw (alive 𝓛 ended.signature z.0.0 z.0.1) ⊛ ‵ (owns (types_at ended.signature.params z.0.0) z.0.3 z.0.4))
    ∷ raw (fact 𝓤 (t ≡ is_some x.held)) ∷ []) ∵ move ! (1 ∷ []) $ heard ! (t ≡ is_some x.held) (λ opened.
    let made : (view.the_row).Denot = record {
      at = p;
      is_open = t;
      held = x.held;
      opened = opened;
      life = x.life;
      parts = x.parts;
    } in
    split ! $ move ! (1 ∷ []) $ fsplit ! $ drop ! $ fsplit ! $ fsplit ! $ drop ! $ move ! (1 ∷ []) $ drop ! $ regoal !
    (λ (us : List Val). prop (WpFn 𝓤 H C Λ fn us Post)) (λ i. are.0 i ++ (told i ++ [])) refl $ enter ! C Λ fn
    (vbool t ∷ lone_val p ∷ []) Post $ alloc_all ! (λ l. pass_all ! refl ((tt, tt), (lone_typed p, tt)) $
    sets ! (of_opd ! (get_in ! (fld ! refl (stop !)) (sub ! 0 refl (whole !)))) refl (ptr_typed p) $
    sets ! (agg ! (and_then ! (get ! refl) (and_then ! (get ! refl) (no_more !)))) refl (flagged_typed p t) $
    returns ! (look_at ! 0 refl) $ free_all ! refl $
    use0 𝓛 (‵ (flagged_own p t (flagged_val p t ∷ []))) (flagged_made 𝓛 p t) $ fjoin ! $
    use0 𝓛 (raw (fact 𝓤 ((x.held ≡ x.held) × (x.life ≡ x.life) × (x.parts ≡ x.parts)))) (fact_i 𝓤
    ((x.held ≡ x.held) × (x.life ≡ x.life) × (x.parts ≡ x.parts)) (emp 𝓤) (refl, refl, refl)) $
    nothing ! $ nothing ! $ fjoin ! $ nothing ! $ fjoin ! $ keep ! (3 ∷ 0 ∷ 2 ∷ 1 ∷ []) $
    by ! (leaves 𝓛 ended stays c z (flagged_val p t) made (tt, (tt, tt)) (tt, (tt, tt))))))
