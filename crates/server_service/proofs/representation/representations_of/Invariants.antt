use Rattle.{std.proofs.Common.{◌≡◌, map, take}, server_service.specs.File.representation_of}
use Rattle.server_service.proofs.representation.representations_of.Given as goal

abbrev pub invariant-loop-file : goal.invariant-loop-file
invariant-loop-file l = l.made.items ≡ map (representation_of l.present) (take l.file-index l.files)
