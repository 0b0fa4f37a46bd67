-- Members of lists between commas, as C sees them.
use Rattle.std.specs.{Prelude.{◌≡◌, ℕ, Bool, List, filter, bytes_eq, if◌then◌else◌}, Global.Vec, List.list_any}
use Rattle.headers.specs.{HeaderLaws.ReadsBy, ItemsState.is_entry, Lines.Line, Merge.merged, Places.{comma, items}}
use Rattle.{headers_syntax.specs.AsciiCase.same_name, c_decisions.specs.Flags.flag_of, c_parts.specs.Written.lines_text}

-- all lines, joined by a comma and a space
abbrev pub reads_list : List Line → List ℕ → Type 0
reads_list = ReadsBy (merged {V = List ℕ} comma (λ value. value))

-- the items of joined lines that aren't empty (RFC 9110, section 5.6.1.2)
abbrev pub members : List ℕ → List (List ℕ)
members value = filter is_entry (items comma value)

-- each member, and a byte 10 after it
abbrev pub ShowsMembers : List ℕ → Vec ℕ → Type 0
ShowsMembers value text = text.items ≡ lines_text (members value)

-- a member is the text, in any case of ASCII letters or byte for byte
abbrev pub is_same : Bool → List ℕ → List ℕ → Bool
is_same any_case text member = if any_case then same_name member text else bytes_eq member text

-- 1 if some member is the text, else 0
abbrev pub ShowsMembership : Bool → List ℕ → List ℕ → ℕ → Type 0
ShowsMembership any_case text value has =
    has ≡ flag_of (list_any (is_same any_case text) (members value))
