use Rattle.c_resource.{specs.Lists.IsEachAt, specs.Representations.{IsRepresentationAt, lines_by}}
use Rattle.c_resource.proofs.representation.representations_by.Given as goal

abbrev pub invariant-loop-place : goal.invariant-loop-place
invariant-loop-place l = IsEachAt (IsRepresentationAt (lines_by l.lists) l.numbers) l.place l.representations.items
