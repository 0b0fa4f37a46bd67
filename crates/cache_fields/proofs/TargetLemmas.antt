-- What the members of a targeted field say, one after the other.
use Rattle.std.proofs.Common.{◌≡◌, ℕ, List, [], ◌∷◌, ◌++◌, refl, ◌∙◌, ap, Option, Some, None, option_and_then}
use Rattle.{std.proofs.Common.option_map, headers_syntax.specs.{Lines.Line, Text.trim}}
use Rattle.rfc_values.specs.Dictionaries.{Entry, MemberParts, dictionary, entry, members_in}
use Rattle.rfc_values.proofs.DictionaryLemmas.{members-end, members-malformed, members-next}
use Rattle.cache_fields.specs.Targets.{all_members, told_after, with_member}
use Rattle.cache_fields.specs.declared.directives.Directives.{Directives}

-- ---- the members of a line

first_told : (told : Directives) (member : MemberParts) (o : Option (List MemberParts))
    → option_map (told_after told) (option_map (λ others. member ∷ others) o)
    ≡ option_map (told_after (with_member told member)) o
first_told told member None = refl
first_told told member (Some others) = refl

pub line-next : (told : Directives) (text : List ℕ) (one : Entry) → entry text ≡ Some one
    → option_map (told_after told) (members_in (Some text))
    ≡ option_map (told_after (with_member told one.member)) (members_in one.next)
line-next told text one e =
    ap (option_map (told_after told)) (members-next text one e) ∙ first_told told one.member (members_in one.next)

pub line-malformed : (told : Directives) (text : List ℕ) → entry text ≡ None
    → option_map (told_after told) (members_in (Some text)) ≡ None
line-malformed told text e = ap (option_map (told_after told)) (members-malformed text e)

pub line-end : (told : Directives) → option_map (told_after told) (members_in None) ≡ Some told
line-end told = ap (option_map (told_after told)) members-end

-- ---- the lines of a field

told-both : (told : Directives) (some others : List MemberParts)
    → told_after told (some ++ others) ≡ told_after (told_after told some) others
told-both told [] others = refl
told-both told (member ∷ some) others = told-both (with_member told member) some others

lines-both : (told : Directives) (some : List MemberParts) (o : Option (List MemberParts))
    → option_map (told_after told) (option_map (λ others. some ++ others) o)
    ≡ option_map (told_after (told_after told some)) o
lines-both told some None = refl
lines-both told some (Some others) = ap Some (told-both told some others)

pub lines-next : (told after : Directives) (line : Line) (lines : List Line)
    → option_map (told_after told) (dictionary (trim line)) ≡ Some after
    → option_map (told_after told) (all_members (line ∷ lines)) ≡ option_map (told_after after) (all_members lines)
lines-next told after line lines e = by (dictionary (trim line)) e
  where
    by : (o : Option (List MemberParts)) → option_map (told_after told) o ≡ Some after → option_map (told_after told)
        (option_and_then (λ members. option_map (λ others. members ++ others) (all_members lines)) o)
        ≡ option_map (told_after after) (all_members lines)
    by None f = absurd (let h : None ≡ Some after = f in cc)
    by (Some members) f =
        let same : told_after told members ≡ after = (let h : Some (told_after told members) ≡ Some after = f in cc) in
        lines-both told members (all_members lines)
        ∙ ap (λ (d : Directives). option_map (told_after d) (all_members lines)) same
