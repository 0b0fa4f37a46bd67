-- The pages that explain statuses (RFC 9110, section 15.5).
use Rattle.std.specs.Prelude.{ℕ, List, ◌++◌, codes, decimal}
use Rattle.http1_typed.specs.Parts.{reason_of}

-- a status as people read it
abbrev pub title : ℕ → List ℕ
title code = decimal code ++ codes " " ++ reason_of code

abbrev pub page_with : List ℕ → List ℕ
page_with text =
    (codes "<!DOCTYPE html>\n<title>" ++ text ++ codes "</title>\n")
    ++ (codes "<h1>" ++ text ++ codes "</h1>\n")

-- The page that explains a status. Nothing of the request is in it.
abbrev pub page : ℕ → List ℕ
page code = page_with (title code)
