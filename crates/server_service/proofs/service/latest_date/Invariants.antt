use Rattle.{std.{proofs.Common.{◌≡◌, drop}, specs.List.fold}, server_service.specs.Answer.later}
use Rattle.server_service.proofs.service.latest_date.Given as goal

abbrev pub invariant-loop-file : goal.invariant-loop-file
invariant-loop-file l = fold later l.latest (drop l.file-index l.files) ≡ fold later 0 l.files
