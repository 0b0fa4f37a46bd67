use Rattle.{std.proofs.Common.{◌≡◌, ◌++◌, take}, server_files.specs.Listings.shown}
use Rattle.server_files.proofs.listing.push_shown.Given as goal

abbrev pub invariant-loop-byte : goal.invariant-loop-byte
invariant-loop-byte l = l.text.items ≡ l.fn.text.items ++ shown (take l.byte-index l.name)
