-- Sections that have a line.
use Rattle.std.{proofs.Common.{◌≡◌, ◌≢◌, ℕ, List, [], ◌∷◌, arith, refl, subst, sym}, specs.List.AllZip}
use Rattle.{http_header.specs.{FieldValue.FieldValue, HeaderMap.{Entries, append_all}}, headers.specs.Lines.Line}
use Rattle.{headers.specs.Typed.HasLine, headers_section.specs.Section.{AreFields, Field, Holds, section}}
