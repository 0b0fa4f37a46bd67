use Rattle.std.{proofs.Common.{◌≡◌, ◌++◌, map, take}, specs.Prelude.{flat_map, string_bytes}}
use Rattle.server_files.specs.Listings.{item}
use Rattle.server_files.proofs.listing.push_items.Given as goal

abbrev pub invariant-loop-name : goal.invariant-loop-name
invariant-loop-name l = l.text.items ≡ l.fn.text.items ++ flat_map item (map string_bytes (take l.name-index l.names))
