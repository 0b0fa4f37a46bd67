-- A `&` to a loan is made where one to what is lent is. Assumes `Logic`.
use denote.{Param.Shared.copy_shared, Struct.{Field.RawPtr-field, Laws.RawPtr-copy, Lending.of_Lends}}
use Rattle.c_handles.proofs.Lending.{loan_laws, Lends-loan}
use Rattle.c_handles.proofs.held.Held.TheLaws as stored
use Rattle.c_handles.specs.contracts.loan.Loan as C
use Rattle.c_handles.proofs.loan.Loan.TheLaw.Statement.{statement}

pub shares : statement
shares =
    let laws = stored.the_row_laws.shr_laws in
    of_Lends C.struct C.the_codes C.the_heap C.the_lent (λ d p. loan_laws laws d.at d.held d.life)
    (copy_shared RawPtr-field RawPtr-copy, tt)
    (λ M 𝓤 𝓛 d p. Lends-loan 𝓛 laws C.the_row.lives d.at d.held d.life d.parts)
