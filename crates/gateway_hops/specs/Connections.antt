-- What a gateway says about its next connection (RFC 9110, sections 7.6.1, 7.8 and 10.1.4).
use Rattle.std.specs.Prelude.{Bool, List, [], ◌∷◌, ◌++◌, Option, codes, is_some, option_map, option_to_list}
use Rattle.std.specs.Prelude.{if◌then◌else◌}
use Rattle.{headers.specs.{LineMap.Field, Lines.Line}, rfc_fields.specs.Members.combined}
use Rattle.gateway_hops.specs.declared.connection.NextConnection.{NextConnection}

-- what a `NextConnection` shows
pub record ConnectionParts : Type 0 where
  pub closes : Bool
  pub accepts_trailers : Bool
  pub upgrade : Option Line

abbrev pub connection_parts : NextConnection → ConnectionParts
connection_parts next =
    record {
      closes = next.closes;
      accepts_trailers = next.accepts_trailers;
      upgrade = option_map (λ value. value.now.bytes) next.upgrade;
    }

-- The connection options: `close`, and the name of each field that is meant for this connection alone. A sender of TE
-- or Upgrade names it in Connection.
abbrev pub option_text : Bool → Bool → Bool → List Line
option_text closes accepts_trailers upgrades =
    (if closes then codes "close" ∷ [] else [])
    ++ ((if accepts_trailers then codes "te" ∷ [] else []) ++ (if upgrades then codes "upgrade" ∷ [] else []))

-- as one field line, if there are any
abbrev pub option_lines : List Line → List Line
option_lines [] = []
option_lines (option ∷ options) = combined (option ∷ options) ∷ []

-- the field lines of Connection, TE and Upgrade
abbrev pub connection_fields : ConnectionParts → List Field
connection_fields next =
    (codes "connection", option_lines (option_text next.closes next.accepts_trailers (is_some next.upgrade)))
    ∷ (codes "te", (if next.accepts_trailers then codes "trailers" ∷ [] else []))
    ∷ (codes "upgrade", option_to_list next.upgrade) ∷ []
