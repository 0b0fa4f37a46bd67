-- Fields that no map takes.
use Rattle.{std.proofs.Common.{◌≡◌, List, Result, Err, IfErr, subst, sym}, http.specs.declared.error.Error.Error}
use Rattle.{http1.specs.Fields.Header, gateway_connection.specs.{Content.IsMapFailure, Responses.IsFieldsFault}}
use Rattle.gateway_connection.specs.Responses.{map_fault}
use Rattle.http.specs.declared.error.Error.TheVariants as Mapped

-- the reason is the one of the map
pub fault_of : (fields : List Header) (e : Error) → IsMapFailure fields e → IsFieldsFault fields (map_fault e)
fault_of fields Mapped.OutOfMemory why = tt
fault_of fields e why = why

-- a call that fails so
pub fails_as : {T E : Type 0} (r : Result T E) {f y : E} → r ≡ Err y → y ≡ f → (P : E → Type 0) → P f → IfErr r P
fails_as {T} {E} r is same P because = subst (λ (x : Result T E). IfErr x P) (sym is) (subst P (sym same) because)
