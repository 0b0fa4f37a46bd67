-- Which request a stored part answers (RFC 9111, section 3.3).
use Rattle.std.specs.Prelude.{[], ◌&&◌, ◌-◌, ◌∷◌, ◌≡◌, ◌≤◌, ◌⊎◌, codes, IsSome, List, nat_le, None, Option, Some, ℕ}
use Rattle.std.specs.Prelude.{decimal, if◌then◌else◌}
use Rattle.headers.specs.LineMap.{Field}
use Rattle.{cache_policy.specs.Requests.Request, cache_rules.specs.Conditions.{AreValidators, IsForCache, one_part}}
use Rattle.cache_rules.specs.{declared.stored.StoredResponse.StoredResponse, Stored.fields_of_stored}
use Rattle.decide_preconditions.specs.{Plans.IsPlanned, declared.plan.Plan.{Plan, TheVariants.{Failed, NotModified}}}
use Rattle.decide_preconditions.specs.declared.plan.Plan.TheVariants.{Full, Multiple, Single, Unsatisfiable}
use Rattle.decide_preconditions.specs.declared.resource.{TargetState.TheVariants.Current, Validators.Validators}
use Rattle.cache_store.specs.Parts.{Combining.Holds, Extents.{bytes_between, range_line, size, strong_tag}}
use Rattle.cache_store.specs.declared.parts.extent.Extent.{Extent}

-- one part lies wholly within another of the same whole
pub record IsWithin (outer inner : Extent) : Type 0 where
  pub ordered : inner.first ≤ inner.last
  pub first : outer.first ≤ inner.first
  pub last : inner.last ≤ outer.last
  pub len : inner.len ≡ outer.len

-- the bytes of a part that lies within one with this content
abbrev pub bytes_within : Extent → List ℕ → Extent → List ℕ
bytes_within outer content inner = bytes_between (inner.first - outer.first) (inner.last - outer.first) content

-- The part that a plan sends, if it is one and lies within a stored one. All else isn't answered by a part: the whole,
-- several parts, what isn't modified, and what can't be satisfied.
abbrev pub part_planned : Extent → Option Plan → Option Extent
part_planned extent (Some (Single part)) =
    if nat_le extent.first part.first && (nat_le part.first part.last && nat_le part.last extent.last) then Some
    (record { first = part.first; last = part.last; len = extent.len }) else None
part_planned extent (Some Full) = None
part_planned extent (Some (Multiple parts)) = None
part_planned extent (Some NotModified) = None
part_planned extent (Some Failed) = None
part_planned extent (Some Unsatisfiable) = None
part_planned extent None = None

module _ (request : Request) (stored : StoredResponse) where
  -- A stored part may answer the request: it has all of its bytes, it has a strong validator, and a cache may evaluate
  -- the request.
  pub record MayAnswer (extent : Extent) : Type 0 where
    pub part : Holds stored extent
    pub strong : IsSome (strong_tag (fields_of_stored stored))
    pub own : IsForCache request

  module _ (now : ℕ) where
    -- The request has this plan by its preconditions, its Range and its If-Range (RFC 9110, sections 13.2.2 and 14.2),
    -- for the representation that has the stored validators and this length.
    abbrev pub HasPlanOf : ℕ → Option Plan → Type 0
    HasPlanOf len found = (current : Validators) × AreValidators stored current
        × IsPlanned now request.method request.fields (Current current) len one_part found

    -- The part that answers the request, or none: the stored part may answer it, and holds all that its plan sends.
    abbrev pub IsPartAnswer : Option Extent → Type 0
    IsPartAnswer found =
        (((extent : Extent) → ¬ (MayAnswer extent)) × (found ≡ None))
        ⊎ ((extent : Extent) × (plan : Option Plan) × MayAnswer extent × HasPlanOf extent.len plan
        × (found ≡ part_planned extent plan))

-- the bytes are those of this part, which lies within the stored one
abbrev pub HasBytes : StoredResponse → Extent → List ℕ → Type 0
HasBytes stored part bytes =
    (extent : Extent) × Holds stored extent × IsWithin extent part × (bytes ≡ bytes_within extent stored.content part)

-- the fields of a 206 with this part (RFC 9110, section 15.3.7.1), for `set_all` on the stored ones
abbrev pub part_fields : Extent → List Field
part_fields part =
    (codes "content-range", range_line part ∷ []) ∷ (codes "content-length", decimal (size part) ∷ []) ∷ []
