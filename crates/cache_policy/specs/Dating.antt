-- The field Date that a cache sets (RFC 9110, section 6.6.1).
use Rattle.std.specs.Prelude.{ℕ, List, [], ◌∷◌, nat_lt, if◌then◌else◌}
use Rattle.headers.specs.{Date.fixdate, Lines.Line}

-- the field lines of a Date of that second; a date after the year 9999 can't be written
abbrev pub date_lines : ℕ → List Line
date_lines second = if nat_lt second 253_402_300_800 then fixdate second ∷ [] else []
