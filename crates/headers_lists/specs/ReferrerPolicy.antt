-- The header `referrer-policy`: the last known word of all field lines.
use Rattle.std.specs.Prelude.{ℕ, List, [], ◌∷◌, Option, None, codes, bytes_eq, find, option_map}
use Rattle.std.specs.List.{filter_map, last_or}
use Rattle.headers_syntax.{specs.Lines.Line, specs.HeaderLaws.Grammar, specs.Parts.parts_of_lines}
use Rattle.headers_lists.specs.declared.referrer_policy.ReferrerPolicy.{ReferrerPolicy}
use Rattle.headers_lists.specs.declared.referrer_policy.Policy.{Policy}
use Rattle.headers_lists.specs.declared.referrer_policy.Policy.TheVariants.{NoReferrer, NoReferrerWhenDowngrade}
use Rattle.headers_lists.specs.declared.referrer_policy.Policy.TheVariants.{SameOrigin, Origin}
use Rattle.headers_lists.specs.declared.referrer_policy.Policy.TheVariants.{OriginWhenCrossOrigin, UnsafeUrl}
use Rattle.headers_lists.specs.declared.referrer_policy.Policy.TheVariants.{StrictOrigin}
use Rattle.headers_lists.specs.declared.referrer_policy.Policy.TheVariants.{StrictOriginWhenCrossOrigin}
use Rattle.headers_items.specs.Places.{comma}

-- the word of a policy (W3C Referrer Policy, section 3)
abbrev pub word_of : Policy → List ℕ
word_of NoReferrer = codes "no-referrer"
word_of NoReferrerWhenDowngrade = codes "no-referrer-when-downgrade"
word_of SameOrigin = codes "same-origin"
word_of Origin = codes "origin"
word_of OriginWhenCrossOrigin = codes "origin-when-cross-origin"
word_of UnsafeUrl = codes "unsafe-url"
word_of StrictOrigin = codes "strict-origin"
word_of StrictOriginWhenCrossOrigin = codes "strict-origin-when-cross-origin"

-- the eight words, in the order of the policies
abbrev pub words : List (List ℕ)
words =
    codes "no-referrer"
    ∷ codes "no-referrer-when-downgrade"
    ∷ codes "same-origin"
    ∷ codes "origin"
    ∷ codes "origin-when-cross-origin"
    ∷ codes "unsafe-url"
    ∷ codes "strict-origin"
    ∷ codes "strict-origin-when-cross-origin"
    ∷ []

-- each known word with its policy: the eight words, and three of earlier drafts
abbrev pub known_words : List (List ℕ × Policy)
known_words =
    (codes "no-referrer", NoReferrer) ∷ (codes "never", NoReferrer)
    ∷ (codes "no-referrer-when-downgrade", NoReferrerWhenDowngrade) ∷ (codes "default", NoReferrerWhenDowngrade)
    ∷ (codes "same-origin", SameOrigin)
    ∷ (codes "origin", Origin)
    ∷ (codes "origin-when-cross-origin", OriginWhenCrossOrigin)
    ∷ (codes "unsafe-url", UnsafeUrl) ∷ (codes "always", UnsafeUrl)
    ∷ (codes "strict-origin", StrictOrigin)
    ∷ (codes "strict-origin-when-cross-origin", StrictOriginWhenCrossOrigin)
    ∷ []

-- the policy of a known word, byte for byte
abbrev pub policy_named : List ℕ → Option Policy
policy_named word = option_map (λ row. row.1) (find (λ row. bytes_eq word row.0) known_words)

-- the policies of the known words among the parts between commas of all field lines, in order
abbrev pub policies : List Line → List Policy
policies lines = filter_map policy_named (parts_of_lines comma lines)

-- the last of them is decoded, and its word is the encoding
abbrev pub referrer_grammar : Grammar ReferrerPolicy Policy
referrer_grammar =
    record {
      kept = λ v. v;
      value_of = λ lines. last_or None (policies lines);
      lines_of_value = λ policy. word_of policy ∷ [];
    }
