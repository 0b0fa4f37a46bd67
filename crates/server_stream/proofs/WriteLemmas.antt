-- What a call that writes puts.
use Rattle.std.proofs.Common.{arith, ◌≡◌, ℕ, ◌⊎◌, inl, inr, List, ◌++◌, Option, Some, None, Result, Ok, Err, refl}
use Rattle.{std.specs.Prelude.{MatchResult, OnErr, OnOk}, bytes.specs.Filled.Filled, http1.specs.Output.GivesOrRefuses}
use Rattle.http1.specs.declared.{error.WriteError.{WriteError, TheVariants.OutOfMemory}, server.Server.Server}
use Rattle.server_stream.specs.{Steps.{PutsText, RefusesWrite}, declared.connection.StreamConnection.StreamConnection}

gives : {T : Type 0} (x : T) (spare len : ℕ) (refusal : Option WriteError) → GivesOrRefuses refusal spare len (Ok x)
    → refusal ≡ None
gives x spare len refusal outcome = grind (arith, refusal)

refuses : (T : Type 0) (error : WriteError) (spare len : ℕ) (refusal : Option WriteError)
    → GivesOrRefuses {T = T} refusal spare len (Err error) → (error ≡ OutOfMemory) ⊎ (refusal ≡ Some error)
refuses T error spare len refusal outcome = grind (arith, refusal)

-- the text is put, or nothing is, and `http1` says why
pub writes : {T : Type 0} (old : StreamConnection) (s : Server) (output : Filled) (refusal : Option WriteError)
    (text : List ℕ) (next : Server) (spare len : ℕ) (r : Result T WriteError)
    → OnOk r (output.items ≡ old.output.items ++ text) → OnOk r (s ≡ next) → OnErr r (output.items ≡ old.output.items)
    → OnErr r (s ≡ old.server) → GivesOrRefuses refusal spare len r → MatchResult r
    (λ _. (refusal ≡ None) × PutsText old text next (record old { server = s; output = output }))
    (λ error. RefusesWrite refusal old error (record old { server = s; output = output }))
writes {T} old s output refusal text next spare len (Ok x) put goes kept stays outcome = grind (arith, gives)
writes {T} old s output refusal text next spare len (Err error) put goes kept stays outcome = grind (arith, refuses)
