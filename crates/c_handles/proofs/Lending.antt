-- A `&` to a loan is a `&` to what is lent. Assumes `Logic`.
use Rattle.std.proofs.Common.{◌≡◌, ◌∙◌, ◌++◌, ℕ, List, [], ◌∷◌, Option, Some, None, refl}
use Rattle.{left_right.proofs.PartSteps.{Lends-part, lent_laws}, c_parts.proofs.HandleValues.lone_val}
use Rattle.c_handles.specs.{Ownership.{loan_owns, loan_shares}, contracts.{held.Held.the_row, loan.Loan.the_type}}
use seplogic.Ra.Ura.{Ura}
use mir.Val.{Val, vstruct, of_list}
use base.Fml.{Lft, ftrue}
use types.Logic.{Logic}
use denote.{Copied.Struct-Copied, Laws.Is, Opens.Opens, RattleType.{RattleType, RowLaws}, RawPtr.Ptr, Sharing.ShrLaws}
use denote.{SharingLaws.nothing_shr_laws, Struct.{Laws.RawPtr-copy, Lending.{Lends, Lends-nothing, lent_at}}}
use denote.Struct.{Lending.lent_at_shr_laws, Owning.shape, Struct.Struct}

pub loan_laws : RowLaws the_row → (at : Ptr) (has : Option the_row.Denot) (life : ℕ) → ShrLaws (loan_shares at has life)
loan_laws laws at None life = nothing_shr_laws
loan_laws laws at (Some held) life = lent_laws (lent_at the_row at held) (lent_at_shr_laws the_row laws at held) life

pub Lends-loan : {M : Type 1} {𝓤 : Ura M} (𝓛 : Logic 𝓤) → RowLaws the_row → (l : Lft) (at : Ptr)
    (has : Option the_row.Denot) (life parts : ℕ) → Lends 𝓛 (loan_owns at has life parts) (loan_shares at has life) l
Lends-loan 𝓛 laws l at None life parts = Lends-nothing 𝓛 ftrue l
Lends-loan 𝓛 laws l at (Some held) life parts =
    Lends-part (lent_at the_row at held) (lent_at_shr_laws the_row laws at held) 𝓛 life parts l

-- the field alone
abbrev pub Data : RattleType
Data = Struct (shape the_type)

pub told : (p : Ptr) (vs : List Val) → Is Data (p, tt) vs → vs ≡ lone_val p ∷ []
told p vs is = is.1.0 ∙ (λ i. vstruct (of_list (is.1.1.0 i ++ [])) ∷ [])

pub opened : {M : Type 1} {𝓤 : Ura M} (𝓛 : Logic 𝓤) → Opens 𝓛 Data
opened {M} {𝓤 = 𝓤} 𝓛 = (Struct-Copied 𝓛 (shape the_type) (refl, tt) (RawPtr-copy.copied M 𝓤 𝓛, tt)).opens
