-- A PUT that names a version, and a resource that has it (RFC 9110, section 13.1.1).
use Rattle.std.specs.Prelude.{◌≡◌, ℕ, false, [], ◌∷◌, Some, codes, slice_get}
use Rattle.{http_header.specs.FieldValue.FieldValue, headers.specs.Lines.Line, rfc_fields.specs.Members.field_members}
use Rattle.{rfc_fields.specs.Scan.Member.Whole, decide_resource.specs.Requests.Request}
use Rattle.decide_resource.specs.declared.{representation.Representation.Representation, resource.Resource.Resource}
use Rattle.decide_resource.specs.declared.resource.State.TheVariants as state
use Rattle.updates.specs.Worlds.{Version}

-- a PUT with If-Match of one member
pub record NamesVersion (request : Request) (etag : Line) : Type 0 where
  pub method : request.method ≡ codes "PUT"
  pub condition : field_members false (request.fields (codes "if-match")) ≡ Whole etag ∷ []

-- the representation has the tag
pub record HasTag (representation : Representation) (etag : Line) : Type 0 where
  pub tag : FieldValue
  pub has : representation.validators.etag ≡ Some tag
  pub bytes : tag.bytes ≡ etag

-- the version is there, and each representation has its tag
pub record Shows (resource : Resource) (version : Version) : Type 0 where
  pub current : resource.state ≡ state.Current
  pub tags : (place : ℕ) (representation : Representation)
      → slice_get resource.representations.items place ≡ Some representation → HasTag representation version.etag
