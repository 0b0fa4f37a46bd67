use Rattle.{std.proofs.Common.{ap, Err}, cache_rules.proofs.FullLemmas.passed_full}
use Rattle.cache_store.proofs.parts.CombineLemmas.{fresh_too_small, reusable, unusable}
use Rattle.cache_store.proofs.parts.combining.combine.Goals as goal

pub returns-in_ok-extended-in-Stored-clause-combined : goal.returns-in_ok-extended-in-Stored-clause-combined
returns-in_ok-extended-in-Stored-clause-combined c = let told = rw c.in-Stored.is at c.in_ok-fresh.ensures.freshened in
    reusable _ _ _ _ _ _ _ _ _ _ _ _ _ c.in-Some.ensures.value c.in_ok-head.ensures c.head.ensures
    c.exchange_of-exchange.ensures (rw (c.as_slice.ensures, c.as_slice-2.ensures) at c.in_ok-content.ensures)
    (rw c.joint.ensures at c.in_ok-fields.ensures) c.in_ok-extended-in-Stored.ensures.extended told.1 told.2

pub returns-in_ok-extended-in-Once-clause-combined : goal.returns-in_ok-extended-in-Once-clause-combined
returns-in_ok-extended-in-Once-clause-combined c = let told = rw c.in-Once.is at c.in_ok-fresh.ensures.freshened in
    unusable _ _ _ _ _ _ _ _ _ _ _ _ _ c.in-Some.ensures.value c.in_ok-head.ensures c.head.ensures
    c.exchange_of-exchange.ensures (rw (c.as_slice.ensures, c.as_slice-2.ensures) at c.in_ok-content.ensures)
    (rw c.joint.ensures at c.in_ok-fields.ensures) c.in_ok-extended-in-Once.ensures.extended told.1 told.2

pub returns-in_err-extended-in-Stored-clause-full : goal.returns-in_err-extended-in-Stored-clause-full
returns-in_err-extended-in-Stored-clause-full c = λ full.
    let told = rw c.in-Stored.is at c.in_ok-fresh.ensures.freshened in
    fresh_too_small _ _ _ _ _ _ _ _ _ c.in-Some.ensures.value c.in_ok-head.ensures c.exchange_of-exchange.ensures
    (rw c.joint.ensures at c.in_ok-fields.ensures) told.1 (c.in_err-extended-in-Stored.ensures.full
    (ap Err (passed_full _ _ c.from_residual-in_err-extended-in-Stored.ensures.1 full)))

pub returns-in_err-extended-in-Once-clause-full : goal.returns-in_err-extended-in-Once-clause-full
returns-in_err-extended-in-Once-clause-full c = λ full. let told = rw c.in-Once.is at c.in_ok-fresh.ensures.freshened in
    fresh_too_small _ _ _ _ _ _ _ _ _ c.in-Some.ensures.value c.in_ok-head.ensures c.exchange_of-exchange.ensures
    (rw c.joint.ensures at c.in_ok-fields.ensures) told.1 (c.in_err-extended-in-Once.ensures.full
    (ap Err (passed_full _ _ c.from_residual-in_err-extended-in-Once.ensures.1 full)))
