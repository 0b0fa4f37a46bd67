-- What caches did (RFC 9211): items of a structured field, with parameters (RFC 8941, sections 3.1.2 and 3.3).
use Rattle.std.specs.Prelude.{ℕ, Bool, false, ◌&&◌, ◌==◌, List, [], ◌∷◌, ◌++◌, Option, None, Some, codes}
use Rattle.std.specs.{Prelude.{is_some, option_and_then, if◌then◌else◌}, Option.option_map_or}
use Rattle.rfc_fields.specs.{Cuts.cut, Directives.equals, Scan.{Member, Member.{Whole, Malformed}}, Values.octets_from}
use Rattle.rfc_values.specs.{Bytes.begins_token, Dictionaries.{Entry, MemberParts, entry}, Items.ValueParts}
use Rattle.{rfc_values.specs.Items.ValueParts.{Integer, Boolean, Text, Other}, rfc_lists.specs.Lines.line}
use Rattle.rfc_lists.specs.{Lines.{malformed_line, valued_line}, Named.named, declared.named.Counts.TheVariants.Last}

-- the only member of a dictionary: a key, and perhaps a value
abbrev pub alone : Entry → Option MemberParts
alone found = option_map_or (λ others. None) found.next (Some found.member)

abbrev pub member_in : List ℕ → Option MemberParts
member_in text = option_and_then alone (entry text)

-- of the values that are no integer, Boolean or string, a token begins so
abbrev pub is_token_text : List ℕ → Bool
is_token_text [] = false
is_token_text (b ∷ text) = begins_token b

-- the name of a cache, which is a string or a token
abbrev pub shown_name : List ℕ → ValueParts → List ℕ
shown_name text (Integer digits) = malformed_line
shown_name text (Boolean is) = malformed_line
shown_name text (Text inside) = line 118 (octets_from false inside)
shown_name text Other = if is_token_text text then line 118 text else malformed_line

-- an item is what may be the value of a member
abbrev pub name_line : List ℕ → List ℕ
name_line text =
    option_map_or (λ (found : MemberParts). shown_name text found.value) (member_in (97 ∷ equals ∷ text)) malformed_line

-- a parameter whose type has this letter: `n` what is true, `i` an integer, `p` a string, `t` a token
abbrev pub value_line : ℕ → List ℕ → List ℕ → ValueParts → List ℕ
value_line letter key written (Integer digits) = if letter == 105 then valued_line 105 key digits else []
value_line letter key written (Boolean is) = if is && letter == 110 then line 110 key else []
value_line letter key written (Text inside) =
    if letter == 112 then valued_line 112 key (octets_from false inside) else []
value_line letter key written Other =
    if letter == 116 && is_token_text written then valued_line 116 key written else []

-- what is behind the first `=`
abbrev pub written_in : List ℕ → List ℕ
written_in text = option_map_or (λ (sides : List ℕ × List ℕ). sides.1) (cut equals text) []

abbrev pub item_text : ℕ → List ℕ → List ℕ → List ℕ
item_text letter key text =
    option_map_or (λ (found : MemberParts). value_line letter key (written_in text) found.value) (member_in text) []

-- of parameters with one key the last counts (RFC 8941, section 4.2.3.2); a key in upper case is malformed
abbrev pub last_line : ℕ → List ℕ → List Member → List ℕ
last_line letter key members = option_map_or (item_text letter key) (named Last key members) []

-- a string or a token
abbrev pub detail_line : List Member → List ℕ
detail_line members = last_line 112 (codes "detail") members ++ last_line 116 (codes "detail") members

-- What a cache did: each parameter that has the type of RFC 9211, sections 2.1 to 2.8. That one of another type is
-- ignored is our choice.
abbrev pub status_lines : List Member → List ℕ
status_lines members =
    last_line 110 (codes "hit") members ++ last_line 116 (codes "fwd") members
    ++ last_line 105 (codes "fwd-status") members ++ last_line 105 (codes "ttl") members
    ++ last_line 110 (codes "stored") members ++ last_line 110 (codes "collapsed") members
    ++ last_line 112 (codes "key") members ++ detail_line members

-- a parameter that isn't by the grammar
abbrev pub malformed_item : Member → List ℕ
malformed_item (Whole text) = if is_some (member_in text) then [] else malformed_line
malformed_item Malformed = malformed_line
