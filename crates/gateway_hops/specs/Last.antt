-- The element that a gateway adds to Forwarded is the last.
use Rattle.std.specs.{Prelude.{◌≡◌, true, List, [], ◌∷◌, ◌++◌, Some}, List.list_all}
use Rattle.{http_header.specs.FieldValue.IsFieldValue, headers.specs.Lines.Line, rfc_fields.specs.Members.combined}
use Rattle.rfc_fields.specs.{Members.{field_members, is_well_formed, members}, Scan.Member.Whole}
use Rattle.gateway_hops.specs.{Arrivals.ArrivalParts, Nodes.node_text, declared.node.Node.Node}

-- the values of an `Arrival` are allowed in a field
pub record IsTold (arrival : ArrivalParts) : Type 0 where
  pub client : IsFieldValue (node_text arrival.client)
  pub interface : (node : Node) → arrival.interface ≡ Some node → IsFieldValue (node_text node)
  pub host : (line : Line) → arrival.host ≡ Some line → IsFieldValue line

-- The field lines are some that were kept, and then the element. Whichever they are, each quote has its end, and a
-- recipient that joins the field lines and parses the list finds the element as the last member.
pub record EndsWith (lines : List Line) (element : Line) : Type 0 where
  pub kept : List Line
  pub follows : lines ≡ kept ++ element ∷ []
  pub well_formed : list_all is_well_formed lines ≡ true
  pub last : members true (combined lines) ≡ field_members true kept ++ Whole element ∷ []
