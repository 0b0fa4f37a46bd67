-- What all resources of a store have in common.
use Rattle.std.specs.Prelude.{◌≡◌, ℕ, false, List, [], ◌∷◌, None, codes}
use Rattle.decide_preconditions.specs.Boundaries.{multipart_type}
use Rattle.decide_resource.{specs.declared.resource.MethodRule.MethodRule, specs.declared.resource.Resource.Resource}

-- the method is GET, which means HEAD too, and asks nothing of a request
pub record IsRead (rule : MethodRule) : Type 0 where
  pub method : rule.method ≡ codes "GET"
  pub is_free : rule.needs_condition ≡ false

-- The resource is read, and has OPTIONS as each resource (RFC 9110, section 9.3.7). The server implements no other
-- method. A client that accepts none of its representations gets the first (section 12.4.1), and codings alone may be
-- negotiated. The text is the boundary of several parts.
pub record IsSite (divider : List ℕ) (resource : Resource) : Type 0 where
  pub rule : MethodRule
  pub rules : resource.rules.items ≡ rule ∷ []
  pub is_read : IsRead rule
  pub no_others : resource.implemented.items ≡ []
  pub media_type : resource.negotiation.media_type ≡ false
  pub language : resource.negotiation.language ≡ false
  pub lenient : resource.negotiation.is_strict ≡ false
  pub needs_length : resource.needs_length ≡ false
  pub limit : resource.limit ≡ None
  pub boundary : resource.boundary.bytes ≡ multipart_type divider
