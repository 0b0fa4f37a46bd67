use Rattle.{std.proofs.Common.{◌≡◌, ◌++◌, take}, server_files.specs.Listings.link}
use Rattle.server_files.proofs.listing.push_link.Given as goal

abbrev pub invariant-loop-byte : goal.invariant-loop-byte
invariant-loop-byte l = l.text.items ≡ l.fn.text.items ++ link (take l.byte-index l.name)
