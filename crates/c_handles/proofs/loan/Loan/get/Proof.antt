-- `get` shows what is lent for as long as the loan is borrowed. Assumes `Logic`.
use Rattle.std.proofs.{Common.{◌≡◌, List, [], ◌∷◌, refl, sym, ap, ◌∙◌}, raw_atomic.Walks.{proved, leaves}}
use Rattle.{std.specs.Prelude.{◌≢◌, Option, Some, None}, core.proofs.atomic.Steps.tail}
use Rattle.{c_parts.proofs.HandleValues.{lone_val, some_of}, c_handles.specs.Ownership.loan_shares}
use Rattle.{c_handles.proofs.Lending.{Data, opened, told}, left_right.proofs.PartSteps.part_sees}
use mir.{Syntax.{Fn, named}, Val.{Val, vptr}}
use base.{Logic.{SProp, emp}, Fml.{Lft, ftrue, flft, fhide}}
use contract.{Monad.{fact, fact_i}, Running.tables}
use types.Kit.{‵, raw, ◌⊛◌, at_ret, ◌$◌, ◌∵◌, !, qed, by, move, keep, split, join, fsplit, fjoin, use0, use1, rewrite}
use types.{Kit.feq_i, Part.{sub, whole, look_in}, Run.{stop, fld, load, addr, of_opd, first, blocks, exec, returns}}
use types.{Run.enter, ByLocal.{alloc_all, pass_all, free_all, look_at, get, through, sets, sets_last, env}}
use denote.{Builtin.RefOf, Exit.yes, Laws.{Is, shows}, Memory.{cell_at, hidden_shr}, Opens.{unhide, hide}}
use denote.{RattleType.{RattleType, owns}, RawPtr.{Ptr, InBlock, block_ptr, block_of, count_of, at_block}, Ref.shr_vals}
use denote.{Ref.shr_Tells, Signature.{types_at, plain}, Steps.{nothing, peeks, heard, looks, shuts}}
use denote.{Struct.Lending.{lent_at, lent_at_shr_laws, lent_out, in_block_says}, Triple.Walked.{Stays, stay_dropped}}
use denote.Triple.Walked.{walk_of, Goes-dropped}
use Rattle.c_handles.specs.contracts.held.Held as Stored
use Rattle.c_handles.proofs.held.Held.TheLaws as stored
use Rattle.c_handles.specs.contracts.loan.Loan as loan
use Rattle.c_handles.specs.contracts.loan.Loan.get.{ended, clauses}
use Rattle.c_handles.specs.contracts.loan.Loan.get.Key.{name as #self}
use Rattle.c_handles.proofs.loan.Loan.get.Statement.{statement}
use Rattle.c_handles.proofs.loan.Loan.get.Code as compiled

pub get_spec : {M : Type 1} → statement M
get_spec 𝓤 𝓛 𝓜 𝓡 wired =
    let 𝓣 = tables 𝓤 𝓛.H 𝓜 𝓡 𝓡.env in
    let R : RattleType = Stored.the_row in
    let Row : RattleType = loan.the_row in
    let c = clauses 𝓛 𝓜.mem 𝓡.returns in
    let fn : Fn = compiled.function in
    let self = RefOf (0 ∷ []) tt (plain (λ _. Row)) (λ _. tt) in
    let stays : Stays ended.signature.params ended.kept = (stay_dropped self yes, tt) in
    proved 𝓛 ended stays c 𝓜 𝓡 (Goes-dropped 𝓛 1 self yes (λ κs x f. refl), tt) #self fn
    (compiled.unfolded 𝓤 𝓛.H 𝓜 𝓡 wired) (λ κs. (shr_vals, tt)) (λ κs. (shr_Tells (named 0) κs.0 Row, tt))
    (λ κs qs bounds a ghost are.
    let b = a.0.ref_ptr.0 in
    let o = a.0.ref_ptr.1 in
    let κ : Lft = κs.0 in
    let x : Row.Denot = a.0.now in
    let p : Ptr = x.at in
    let z : (walk_of 𝓛 ended stays c).Ghost = ((κs, qs, bounds, a, (vptr b o ∷ [], tt)), ghost) in
    let Post : Val → SProp 𝓤 = (walk_of 𝓛 ended stays c).post z in
    let there : Val = vptr (block_of p) (count_of p) in
    qed 𝓛 (((‵ (flft κ qs.0) ⊛ ‵ ftrue) ⊛ ‵ (owns (types_at ended.signature.params κs) a z.0.4))
    ∷ raw (fact 𝓤 (x.held ≢ None)) ∷ []) ∵ move ! (1 ∷ []) $ heard ! (x.held ≢ None) (λ has. some_of x.held has (λ v is.
    split ! $ split ! $ move ! (2 ∷ []) $ fsplit ! $ fsplit ! $ keep ! (1 ∷ 3 ∷ 4 ∷ []) $
    enter ! 𝓣.C 𝓣.Λ fn (vptr b o ∷ []) Post $ alloc_all ! (λ l. pass_all ! refl ((tt, tt), tt) $
    let Ev = env fn.locals l in
    use1 𝓛 (‵ (hidden_shr Data κ (p, tt) b o) ⊛ ‵ (fhide (loan_shares p x.held x.life κ)))
    (lent_out 𝓛 loan.struct loan.the_codes loan.the_heap loan.the_lent κ x b o) $ split ! $ move ! (1 ∷ []) $ unhide ! $
    rewrite ! 0 (λ (has' : Option R.Denot). ‵ (loan_shares p has' x.life κ)) is refl $ use1 𝓛 (‵ (lent_at R p v κ))
    (part_sees (lent_at R p v) (lent_at_shr_laws R stored.the_row_laws.shr_laws p v) 𝓛 x.life κ) $ fsplit ! $ use1 𝓛
    (raw (fact 𝓤 (InBlock p))) (in_block_says 𝓛 p) $ heard ! (InBlock p) (λ inb. hide ! $ move ! (1 ∷ 2 ∷ []) $
    looks ! tt Data (opened 𝓛) (p, tt) b o (λ q vs. move ! (1 ∷ []) $
    peeks ! Data (Is Data) (shows 𝓛 Data) (p, tt) vs (λ so.
    let ev : vs ≡ lone_val (block_ptr (block_of p) (count_of p)) ∷ [] =
    told p vs so ∙ ap (λ (r : Ptr). lone_val r ∷ []) (at_block p inb) in
    rewrite ! 1 (λ (ws : List Val). ‵ (cell_at q Data.mir ws b o)) ev refl $ first ! $ blocks ! $ sets !
    (of_opd ! (load ! (through ! refl (fld ! refl (stop !))) (look_in ! 1 (sub ! 0 refl (whole !))))) refl (tt, tt) $
    sets ! (of_opd ! (get ! refl)) refl (tt, tt) $ sets_last ! (addr ! (through ! refl (stop !))) refl (tt, tt) $ exec !
    𝓣.C 𝓣.Λ Ev (tail fn.body) (at_ret Ev Post) $ sets ! (of_opd ! (get ! refl)) refl (tt, tt) $ rewrite ! 1
    (λ (ws : List Val). ‵ (cell_at q Data.mir ws b o)) (sym ev) refl $ move ! (1 ∷ 0 ∷ 2 ∷ []) $ shuts ! tt Data q
    (p, tt) vs b o $ move ! (0 ∷ 3 ∷ []) $ join ! $ move ! (2 ∷ []) $ feq_i ! (List Val) (there ∷ []) (there ∷ []) refl
    $ fjoin ! $ use0 𝓛 (raw (fact 𝓤 (x.held ≡ Some v))) (fact_i 𝓤 (x.held ≡ Some v) (emp 𝓤) is) $ nothing ! $ nothing !
    $ fjoin ! $ returns ! (look_at ! 0 refl) $ free_all ! refl $ keep ! (3 ∷ 0 ∷ 2 ∷ 1 ∷ []) $ by !
    (leaves 𝓛 ended stays c z there (record { ref_ptr = (block_of p, count_of p); now = v }) (tt, tt) (tt, tt)))))))))
