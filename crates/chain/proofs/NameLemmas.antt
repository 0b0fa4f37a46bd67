-- Which version a request names, and which one is there.
use Rattle.std.proofs.Common.{◌≡◌, ℕ, ◌<◌, Bool, true, false, List, [], ◌∷◌, length, Option, Some, None, refl, sym}
use Rattle.std.proofs.{Common.{ap, subst, ◌∙◌, arith, inl, inr, bytes_eq}, lemmas.Bool.{and_parts, both_ways, or_cases}}
use Rattle.std.{proofs.lemmas.Slice.Eq.bytes_eq-Decides, specs.{Prelude.{◌&&◌, ◌||◌, codes}, List.list_any}}
use Rattle.{http_header.specs.FieldValue.FieldValue, headers.specs.EntityTag.{AreTags, StronglyEqual, tag_text}}
use Rattle.{headers.specs.{LineMap.LineMap, Lines.Line}, rfc_fields.specs.{Members.field_members, Scan.Member}}
use Rattle.{rfc_fields.specs.Scan.Member.Whole, decide_preconditions.specs.{Conditions.IfMatchIsTrue, Fields.etag_of}}
use Rattle.decide_preconditions.specs.{Fields.lines_sent, Preconditions.IsUnconditional, Tags.{are_tags, is_star}}
use Rattle.decide_preconditions.specs.declared.{resource.TargetState.TargetState as Target}
use Rattle.{decide_preconditions.proofs.TagLemmas.strongly_equal, decide_resource.specs.Answers.{IsAnswer, at_place}}
use Rattle.decide_resource.specs.{Answers.target_of, Applies.{is_read, needs_condition, rule}, Guards.IsNamed}
use Rattle.decide_resource.specs.{Guards.ReplacesNamed, Requests.Request, declared.answer.Answer.Answer}
use Rattle.decide_resource.specs.declared.{representation.Representation.Representation, resource.Resource.Resource}
use Rattle.{decide_resource.specs.declared.resource.State.State, updates.specs.Worlds.Version}
use Rattle.chain.specs.Naming.{HasTag, NamesVersion, Shows}
use Rattle.decide_preconditions.specs.declared.resource.TargetState.TheVariants as target
use Rattle.decide_resource.specs.declared.answer.Sends.TheVariants as sends
use Rattle.decide_resource.specs.declared.resource.State.TheVariants as state

-- ---- If-Match of one tag

some_line : (lines : List Line) (etag : Line) → field_members false lines ≡ Whole etag ∷ [] → 0 < length lines
some_line [] etag e = absurd (cc e)
some_line (line ∷ lines) etag e = omega arith

-- what a list of one member says
said : (lines : List Line) (etag : Line) (test : Member → Bool) → is_star lines ≡ false
    → field_members false lines ≡ Whole etag ∷ []
    → (is_star lines || (are_tags lines && list_any test (field_members false lines))) ≡ true → test (Whole etag) ≡ true
said lines etag test star_not one holds =
    elim (or_cases (is_star lines) (are_tags lines && list_any test (field_members false lines)) holds) [
      | inl starred ↦ absurd (both_ways (is_star lines) star_not starred)
      | inr rest ↦
          let listed : list_any test (field_members false lines) ≡ true =
          (and_parts (are_tags lines) (list_any test (field_members false lines)) rest).1 in
          let there : (test (Whole etag) || false) ≡ true = sym (ap (list_any test) one) ∙ listed in
          elim (or_cases (test (Whole etag)) false there) [
            | inl now ↦ now
            | inr never ↦ absurd (both_ways false refl never)
          ]
    ]

same_text : (a b : Line) → AreTags StronglyEqual a b → a ≡ b
same_text a b h =
    let parts : h.0 ≡ h.1 = ap (λ (w : Bool). record { is_weak = w; opaque = h.0.opaque }) (h.4.left ∙ sym h.4.right)
    ∙ ap (λ (o : List ℕ). record { is_weak = h.1.is_weak; opaque = o }) h.4.opaque in
    h.2.text ∙ ap tag_text parts ∙ sym h.3.text

-- the tag is that of what is there
listed_tag : (fields : LineMap) (etag : Line) (found : Option FieldValue) (tag : FieldValue) (current : Target)
    → is_star (fields (codes "if-match")) ≡ false → field_members false (fields (codes "if-match")) ≡ Whole etag ∷ []
    → etag_of current ≡ found → found ≡ Some tag → IfMatchIsTrue fields current → etag ≡ tag.bytes
listed_tag fields etag found tag target.Missing is one has there holds = absurd (both_ways false refl holds)
listed_tag fields etag found tag (target.Current validators) is one has there holds =
    let now : IfMatchIsTrue fields (target.Current (record validators { etag = Some tag })) =
    subst (λ (o : Option FieldValue). IfMatchIsTrue fields (target.Current (record validators { etag = o })))
    (has ∙ there) holds in
    same_text etag tag.bytes ((strongly_equal etag tag.bytes).0 (said (fields (codes "if-match")) etag _ is one now))

no_tag : (fields : LineMap) (etag : Line) → is_star (fields (codes "if-match")) ≡ false
    → field_members false (fields (codes "if-match")) ≡ Whole etag ∷ []
    → IfMatchIsTrue fields (target_of state.Current None) → ⊥
no_tag fields etag is one holds = both_ways false refl (said (fields (codes "if-match")) etag _ is one holds)

-- ---- the version that is there

placed : (resource : Resource) (place : Option ℕ) (representation : Representation) (version : Version)
    → Shows resource version → at_place resource.representations.items place ≡ Some representation
    → HasTag representation version.etag
placed resource None representation version shows at = absurd (cc at)
placed resource (Some k) representation version shows at = shows.tags k representation at

tag_of : (there : State) (representation : Representation)
    → etag_of (target_of there (Some representation)) ≡ representation.validators.etag
tag_of there representation = refl

pub tag_line : (resource : Resource) (version : Version) (place : Option ℕ) (representation : Representation)
    → Shows resource version → at_place resource.representations.items place ≡ Some representation
    → lines_sent (λ (tag : FieldValue). tag.bytes)
    (etag_of (target_of resource.state (at_place resource.representations.items place))) ≡ version.etag ∷ []
tag_line resource version place representation shows at =
    let has = placed resource place representation version shows at in
    ap (λ (o : Option Representation). lines_sent (λ (tag : FieldValue). tag.bytes)
    (etag_of (target_of resource.state o))) at
    ∙ ap (λ (o : Option FieldValue). lines_sent (λ (tag : FieldValue). tag.bytes) o) has.has
    ∙ ap (λ (b : Line). b ∷ []) has.bytes

is_there : (found : Option Representation) → target_of state.Current found ≡ target.Missing → ⊥
is_there None e = cc e
is_there (Some representation) e = cc e

named : (resource : Resource) (version : Version) (fields : LineMap) (etag : Line) (place : Option ℕ)
    → Shows resource version → is_star (fields (codes "if-match")) ≡ false
    → field_members false (fields (codes "if-match")) ≡ Whole etag ∷ []
    → IfMatchIsTrue fields (target_of state.Current (at_place resource.representations.items place))
    → etag ≡ version.etag
named resource version fields etag place shows is one =
    (elim (at_place resource.representations.items place) as (λ o. at_place resource.representations.items place ≡ o
    → IfMatchIsTrue fields (target_of state.Current o) → etag ≡ version.etag) [
      | None ↦ λ at holds. absurd (no_tag fields etag is one holds)
      | Some representation ↦ λ at holds.
          let has = placed resource place representation version shows at in
          listed_tag fields etag representation.validators.etag has.tag
          (target_of state.Current (Some representation)) is one refl has.has holds ∙ has.bytes
    ]) refl

-- ---- what is performed

put_counts : IsUnconditional (codes "PUT") → ⊥
put_counts (inl e) = absurd (cc e)
put_counts (inr (inl e)) = absurd (cc e)
put_counts (inr (inr e)) = absurd (cc e)

put_is_no_read : is_read (codes "PUT") ≡ false
put_is_no_read = refl

-- what a law of a resource says
abbrev pub ReplacesWhatItNames : Type 0
ReplacesWhatItNames = (present : ℕ) (resource : Resource) (request : Request) (answer : Answer)
    → needs_condition (rule resource request) ≡ true → is_read request.method ≡ false
    → ¬ (IsUnconditional request.method) → IsAnswer present resource request answer → answer.sends ≡ sends.Perform
    → ReplacesNamed present resource request

pub performed : ReplacesWhatItNames → (present : ℕ) (resource : Resource) (request : Request) (answer : Answer)
    (version : Version) (etag : Line) → Shows resource version → NamesVersion request etag
    → needs_condition (rule resource request) ≡ true → IsAnswer present resource request answer
    → answer.sends ≡ sends.Perform → bytes_eq etag version.etag ≡ true
performed law present resource request answer version etag shows names needs is performs =
    let on = law present resource request answer needs (ap is_read names.method ∙ put_is_no_read)
    (subst (λ (m : List ℕ). ¬ (IsUnconditional m)) (sym names.method) put_counts) is performs in
    let there : IsNamed present resource request.fields
    (target_of state.Current (at_place resource.representations.items on.0)) =
    subst (λ (s : State). IsNamed present resource request.fields
    (target_of s (at_place resource.representations.items on.0))) shows.current on.2 in
    (bytes_eq-Decides etag version.etag).1 (elim there [
      | inl nothing ↦ absurd (is_there (at_place resource.representations.items on.0) nothing.1)
      | inr (inl listed) ↦ named resource version request.fields etag on.0 shows listed.0 names.condition listed.1
      | inr (inr dated) ↦
          absurd (dated.1 (some_line (request.fields (codes "if-match")) etag names.condition))
    ])
