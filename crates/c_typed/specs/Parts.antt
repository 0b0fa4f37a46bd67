-- Parts of fields, as C sees them.
use Rattle.std.specs.{Prelude.{◌≡◌, ℕ, ◌==◌, ◌<◌, ◌≤◌, List, Result, Err, if◌then◌else◌}, Global.Vec}
use Rattle.{headers.specs.Lines.Line, rfc_lists.specs.{Challenges.challenges_text, Elements.elements_text}}
use Rattle.rfc_lists.specs.{Elements.values_text, Links.links_text, SetCookies.set_cookies_text}
use Rattle.rfc_lists.specs.declared.elements.Form.TheVariants.{Element, Disposition, Hop, Cache}
use Rattle.{c_parts.specs.declared.status.Failure.{Failure, TheVariants.Refused}, c_typed.specs.Shown.LinesShow}

-- the parts of a list of elements, of challenges, of links, of cookies to be set, of dispositions, of hops, or of what
-- caches did
abbrev pub form_text : ℕ → List Line → List ℕ
form_text form lines =
    if form == 0 then elements_text Element lines
    else (if form == 1 then challenges_text lines
    else (if form == 2 then links_text lines
    else (if form == 3 then set_cookies_text lines
    else (if form == 4 then values_text Disposition lines
    else (if form == 5 then elements_text Hop lines else elements_text Cache lines)))))

abbrev pub ShowsParts : ℕ → List Line → Vec ℕ → Type 0
ShowsParts form lines text = text.items ≡ form_text form lines

-- the parts of the lines, if there is such a form
pub record ShowsForm (form : ℕ) (text : List ℕ) (result : Result (Vec ℕ) Failure) : Type 0 where
  pub known : form ≤ 6 → LinesShow (ShowsParts form) text result
  pub unknown : 6 < form → result ≡ Err Refused
