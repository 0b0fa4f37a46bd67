use Rattle.{std.proofs.Common.{◌∙◌, arith, inl, inr, refl}, cache_store.proofs.GoOnLemmas.{goes-front, goes-inserted}}
use Rattle.cache_store.{proofs.StoringLemmas.same_number, specs.{Changes.FitsAlone, Contents.size_at}}
use Rattle.cache_store.proofs.store.Store.store.Goals as goal
use Rattle.cache_store.proofs.store.Store.store.Goals.{then-not-is_stored-via-then-not-is_stored}
use Rattle.cache_store.proofs.store.Store.store.Goals.{then-not-is_stored-via-else-not-is_stored+then-not-fits}

pub returns-then-not-is_stored-clause-unstored : goal.returns-then-not-is_stored-clause-unstored
returns-then-not-is_stored-clause-unstored c = λ _. elim c.then-not-is_stored.branch [
  | then-not-is_stored-via-then-not-is_stored w ↦ (inl w.if-not-is_stored.ensures, refl)
  | then-not-is_stored-via-else-not-is_stored+then-not-fits w ↦
      let unfit = rw w.size_at.ensures at w.if-not-fits.ensures in (
        inr (inl (λ (fits : FitsAlone c.args.self.now.limits 1 (size_at c.args.target.now c.args.came)). unfit (record {
          variants = omega (arith, fits.variants);
          few = omega (arith, fits.few);
          light = omega (arith, fits.light);
        }))),
        refl,
      )
]

pub returns-then-not-fits-2-clause-unstored : goal.returns-then-not-fits-2-clause-unstored
returns-then-not-fits-2-clause-unstored c = λ _.
    let unfit = rw (c.size_at-size.ensures, c.take_numbers.ensures.limits) at c.if-not-fits-2.ensures in (
      inr (inr (
        c.in_ok-stored.stored,
        c.in_ok-stored.ensures.stored,
        λ (fits : FitsAlone c.args.self.now.limits 1 (size_at c.args.target.now c.in_ok-stored.stored)). unfit (record {
          variants = omega (arith, fits.variants);
          few = omega (arith, fits.few);
          light = omega (arith, fits.light);
        }),
      )),
      c.take_numbers.ensures.contents,
    )

pub returns-in-Ok-clause-stored : goal.returns-in-Ok-clause-stored
returns-in-Ok-clause-stored c = λ number same. (
  c.in_ok-stored.stored,
  c.if-not-is_stored.ensures,
  c.in_ok-stored.ensures.stored,
  c.in_ok-stored.ensures.number ∙ same_number _ number _ refl same,
  rw c.take_numbers.ensures.contents at (rw c.take_numbers.ensures.limits at c.in-Ok.ensures.ok),
)

pub returns-in-Ok-clause-step : goal.returns-in-Ok-clause-step
returns-in-Ok-clause-step c =
    let put = returns-in-Ok-clause-stored c c.in_ok-number.number refl in inr (inl (put.0, put.1, put.2, put.4))

pub returns-in-Ok-clause-numbers : goal.returns-in-Ok-clause-numbers
returns-in-Ok-clause-numbers c = let put = returns-in-Ok-clause-stored c c.in_ok-number.number refl in
    goes-inserted _ _ _ _ (omega (arith, c.insert.ensures.next, c.in_ok-number.ensures.ok)) _ _ put.0 put.4
    (omega (arith, put.3, c.in_ok-number.ensures.ok))

pub returns-in-Err-clause-numbers : goal.returns-in-Err-clause-numbers
returns-in-Err-clause-numbers c = goes-front _ _ _ _ (omega (arith, c.insert.ensures.next, c.in_ok-number.ensures.ok)) _
    (rw c.take_numbers.ensures.contents at c.in-Err.ensures.err)
