-- Round trip: the encoding of a range decodes to that range.
use Rattle.std.{proofs.Common.{◌≡◌, ◌≢◌, ◌↔◌, ℕ, List, Some, refl, ap, inl, inr, ◌∙◌, sym}, specs.Prelude.bytes_eq}
use Rattle.std.{proofs.lemmas.Bool.cases_Bool, proofs.lemmas.Slice.Eq.bytes_eq-Decides}
use Rattle.headers_items.{specs.Merge.merge, specs.Places.comma}
use Rattle.headers_syntax.specs.HeaderLaws.{ReadsBack, ReadsBy, written_by}
use Rattle.headers_core.specs.declared.entity_tag_range.EntityTagRange.{EntityTagRange}
use Rattle.headers_core.specs.declared.entity_tag_range.EntityTagRange.TheVariants.{Any, Tags}
use Rattle.headers_core.specs.EntityTagRange.{star, range_of, range_text, tags_grammar}

range_of-text : (value : List ℕ) → range_of (range_text (range_of value)) ≡ range_of value
range_of-text value = elim (cases_Bool (bytes_eq value star)) [ inl t ↦ rw t refl | inr f ↦ rw (f, f) refl ]

pub range_back : ReadsBack tags_grammar
range_back lines tags e =
    let some : range_of (merge comma lines) ≡ tags = cc e in
    rw (← some) (ap (λ (r : EntityTagRange). Some r) (range_of-text (merge comma lines)))

-- of the ranges that can be built, all survive a round trip but a list of the one byte `*`
pub built_back : (range : EntityTagRange)
    → ReadsBy tags_grammar (written_by tags_grammar range) range ↔ range ≢ Tags star
built_back Any = (λ h e. absurd (cc e), λ h. refl)
built_back (Tags tags) =
    elim (cases_Bool (bytes_eq tags star)) [
      | inl y ↦ (
        λ h e. let any : Some Any ≡ Some (Tags tags) = rw y at h in absurd (cc any),
        λ other. absurd (other (ap Tags ((bytes_eq-Decides tags star).0 y))),
      )
      | inr n ↦ (
        λ h e. let same : tags ≡ star = cc e in
            absurd (cc (sym n ∙ (bytes_eq-Decides tags star).1 same)),
        λ other. rw n refl,
      )
    ]
