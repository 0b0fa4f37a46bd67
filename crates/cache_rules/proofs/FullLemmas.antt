-- Calls that return `Full`.
use Rattle.std.proofs.{Common.{◌≡◌, ◌∙◌, Result, IsErrOf, sym}, lemmas.Result.err_from_is_err_and}
use Rattle.{std.specs.Result.IsErrAnd, headers_map.specs.declared.insert.InsertError.{InsertError, TheVariants.Full}}

-- if `?` returns `Full`, the call before it did
pub passed_full : {A : Type 0} (r : Result A InsertError) (error : InsertError)
    → IsErrAnd r (λ given. given ≡ error) → IsErrOf r Full → error ≡ Full
passed_full r error passes full =
    let p = err_from_is_err_and r passes in
    let given : p.0 ≡ Full = cc (p.1, full) in
    sym p.2 ∙ given
