-- The list that the fields of the type make.
use Rattle.{std.specs.Prelude.option_map, headers.specs.Lines.lines_of, decide_handshake.specs.Origins.OriginList}
use Rattle.decide_handshake.specs.declared.origins.Origins.TheInside.{Inside}

abbrev pub origins_of : Inside → OriginList
origins_of a = option_map (λ listed. lines_of listed.items) a.listed
