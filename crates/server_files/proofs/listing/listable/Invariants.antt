use Rattle.{std.proofs.Common.◌≡◌, server_files.specs.Listings.listable}
use Rattle.server_files.proofs.listing.listable.Given as goal

abbrev pub invariant-loop-name : goal.invariant-loop-name
invariant-loop-name l = l.listed.items ≡ listable l.yielded
