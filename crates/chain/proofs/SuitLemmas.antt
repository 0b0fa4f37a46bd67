-- Requests that a cache takes for one by Vary get the same answers.
use Rattle.std.proofs.Common.{◌≡◌, ◌≢◌, ◌↔◌, ℕ, Bool, true, false, List, [], ◌∷◌, refl, sym, ◌∙◌, ap, subst, inl, inr}
use Rattle.std.proofs.{Common.{arith, bytes_eq}, lemmas.Bool.{cases_Bool, Decides.nat_tests}}
use Rattle.std.{proofs.lemmas.{Slice.Eq.bytes_eq-Decides, List.Elements.{All-head, All-tail}}, specs.Prelude.All}
use Rattle.std.specs.{Prelude.{◌||◌, codes, if◌then◌else◌}, List.list_any, Char.to_ascii_lowercase}
use Rattle.{http_header.specs.Token.lowercase, headers.specs.{LineMap.{LineMap, fields_of, set_all}, Lines.Line}}
use Rattle.cache_policy.specs.{Varying.{Agree, SayTheSame, has_pairs, is_list_name, Suits}, Requests.AllowsMethod}
use Rattle.rfc_fields.specs.{Directives.is_same_token, Members.field_members, Scan.{Member, Member.{Whole, Malformed}}}
use Rattle.{chain.specs.Caches.asked, decide_cors.specs.Cache.{Serves, nominates}}
use Rattle.decide_resource.specs.{Answers.{AreSame, IsAnswer}, Requests.Request, declared.answer.Answer.Answer}
use Rattle.decide_resource.specs.{declared.resource.Resource.Resource, Vary.{AreAlike, ListAlike, SelectTheSame}}

-- ---- what members of Vary nominate

star_alone : (name : List ℕ) → lowercase name ≡ codes "*" → name ≡ codes "*"
star_alone [] e = absurd (cc e)
star_alone (b ∷ []) e =
    let low : to_ascii_lowercase b ≡ 42 = cc e in
    let same : b ≡ 42 = grind (arith, nat_tests, low) in ap (λ (n : ℕ). n ∷ []) same
star_alone (b ∷ c ∷ name) e = absurd (cc e)

module _ (r s : LineMap) where
  -- requests agree in each name that a member is
  agreed : (name : Line) (ms : List Member) → All (Agree r s) ms → list_any (is_same_token name) ms ≡ true
      → SayTheSame (lowercase name) (r (lowercase name)) (s (lowercase name))
  agreed name [] all e = absurd (cc e)
  agreed name (Malformed ∷ ms) all e = absurd (All-head (Agree r s) Malformed ms all)
  agreed name (Whole text ∷ ms) all e = elim (cases_Bool (bytes_eq (lowercase text) (lowercase name))) [
    | inl t ↦
        subst (λ (n : Line). SayTheSame n (r n) (s n)) ((bytes_eq-Decides (lowercase text) (lowercase name)).0 t)
        (All-head (Agree r s) (Whole text) ms all).2
    | inr f ↦
        agreed name ms (All-tail (Agree r s) (Whole text) ms all)
        (sym (ap (λ (b : Bool). b || list_any (is_same_token name) ms) f) ∙ e)
  ]

  pub no_star : (ms : List Member) → All (Agree r s) ms → list_any (is_same_token (codes "*")) ms ≡ true → ⊥
  no_star [] all e = cc e
  no_star (Malformed ∷ ms) all e = All-head (Agree r s) Malformed ms all
  no_star (Whole text ∷ ms) all e = elim (cases_Bool (bytes_eq (lowercase text) (codes "*"))) [
    | inl t ↦
        (All-head (Agree r s) (Whole text) ms all).1
        (star_alone text ((bytes_eq-Decides (lowercase text) (codes "*")).0 t))
    | inr f ↦
        no_star ms (All-tail (Agree r s) (Whole text) ms all)
        (sym (ap (λ (b : Bool). b || list_any (is_same_token (codes "*")) ms) f) ∙ e)
  ]

-- ---- the request between two that a cache takes for one

-- the field lines of the first where Vary names the field, and else those of the second
abbrev between : List Line → LineMap → LineMap → LineMap
between varying r s name = if nominates varying name then r name else s name

either : {X : Type 0} (b : Bool) (x y : X) → x ≡ y → x ≡ (if b then x else y)
either true x y e = refl
either false x y e = e

other : {X : Type 0} (b : Bool) (x y : X) → x ≡ y → y ≡ (if b then x else y)
other true x y e = sym e
other false x y e = refl

-- a field that is no list has the same field lines
one_line : (name : Line) (b : Bool) (r s : List Line) → is_list_name name ≡ false
    → (b ≡ true → SayTheSame name r s) → s ≡ (if b then r else s)
one_line name true r s single says = elim (says refl) [
  | inl e ↦ sym e
  | inr h ↦ let list : is_list_name name ≡ true = h.0 in absurd (cc (single, list))
]
one_line name false r s single says = refl

-- a list is the same
one_list : (name : Line) (b : Bool) (r s : List Line) → has_pairs name ≡ true → (b ≡ true → SayTheSame name r s)
    → ListAlike s (if b then r else s)
one_list name true r s pairs says = elim (says refl) [
  | inl e ↦ inl (sym e)
  | inr h ↦
      let same : field_members (has_pairs name) r ≡ field_members (has_pairs name) s = h.1.same.1 in
      inr (
        h.1.also_present,
        h.1.present,
        sym (ap (λ (p : Bool). field_members p r) (sym pairs) ∙ same ∙ ap (λ (p : Bool). field_members p s) pairs),
      )
]
one_list name false r s pairs says = inl refl

is_list_origin : is_list_name (codes "origin") ≡ false
unfolding is_list_name
is_list_origin = refl

is_list_method : is_list_name (codes "access-control-request-method") ≡ false
unfolding is_list_name
is_list_method = refl

pairs_accept : has_pairs (codes "accept") ≡ true
unfolding has_pairs
pairs_accept = refl

pairs_language : has_pairs (codes "accept-language") ≡ true
unfolding has_pairs
pairs_language = refl

pairs_coding : has_pairs (codes "accept-encoding") ≡ true
unfolding has_pairs
pairs_coding = refl

module _ (varying : List Line) (r s : Request) (alike : AreAlike r s)
    (agree : All (Agree r.fields s.fields) (field_members true varying)) where
  abbrev middle : Request
  middle = record {
    protocol = s.protocol;
    method = s.method;
    authority = s.authority;
    content = s.content;
    fields = between varying r.fields s.fields;
    denied = s.denied;
  }

  says : (name : Line) → lowercase name ≡ name → nominates varying name ≡ true
      → SayTheSame name (r.fields name) (s.fields name)
  says name low e = rw low at (agreed r.fields s.fields name (field_members true varying) agree e)

  serves : Serves varying r.fields middle.fields
  serves = record {
    no_star = λ e. no_star r.fields s.fields (field_members true varying) agree e;
    same = λ name e. rw e refl;
  }

  -- what is alike but for fields whose lines aren't those of `middle`
  alike_to : (p : Request) → p.protocol ≡ s.protocol → p.method ≡ s.method → p.authority ≡ s.authority
      → p.content ≡ s.content → p.denied ≡ s.denied
      → ((name : Line) → r.fields name ≡ s.fields name → p.fields name ≡ middle.fields name) → AreAlike p middle
  alike_to p protocol method authority content denied by = record {
    protocol = protocol;
    method = method;
    authority = authority;
    host = by (codes "host") alike.host;
    expect = by (codes "expect") alike.expect;
    content = content;
    denied = denied;
    content_type = by (codes "content-type") alike.content_type;
    content_encoding = by (codes "content-encoding") alike.content_encoding;
    content_range = λ put. by (codes "content-range") (alike.content_range (alike.method ∙ sym method ∙ put));
    asks = record {
      if_match = by (codes "if-match") alike.asks.if_match;
      if_none_match = by (codes "if-none-match") alike.asks.if_none_match;
      if_modified_since = by (codes "if-modified-since") alike.asks.if_modified_since;
      if_unmodified_since = by (codes "if-unmodified-since") alike.asks.if_unmodified_since;
      range = by (codes "range") alike.asks.range;
      if_range = by (codes "if-range") alike.asks.if_range;
    };
  }

  first : AreAlike r middle
  first = alike_to r alike.protocol alike.method alike.authority alike.content alike.denied
      (λ name e. either (nominates varying name) (r.fields name) (s.fields name) e)

  second : AreAlike s middle
  second = alike_to s refl refl refl refl refl (λ name e. other _ _ _ e)

  select : SelectTheSame s.fields middle.fields
  select =
      let list = λ (name : Line) (low : lowercase name ≡ name) (pairs : has_pairs name ≡ true).
      one_list name (nominates varying name) (r.fields name) (s.fields name) pairs (says name low) in
      let line = λ (name : Line) (low : lowercase name ≡ name) (single : is_list_name name ≡ false).
      one_line name (nominates varying name) (r.fields name) (s.fields name) single (says name low) in
      record {
        accept = list (codes "accept") refl pairs_accept;
        accept_language = list (codes "accept-language") refl pairs_language;
        accept_encoding = list (codes "accept-encoding") refl pairs_coding;
        origin = line (codes "origin") refl is_list_origin;
        requested_method = line (codes "access-control-request-method") refl is_list_method;
      }

-- ---- laws of a resource

abbrev pub VaryIsSound : Type 0
VaryIsSound = (present : ℕ) (resource : Resource) (r s : Request) (a b : Answer) (before : LineMap)
    → IsAnswer present resource r a → IsAnswer present resource s b → AreAlike r s → r.method ≢ codes "OPTIONS"
    → Serves (set_all before (fields_of a.fields.items) (codes "vary")) r.fields s.fields → AreSame a b

abbrev pub MembersSelect : Type 0
MembersSelect = (present : ℕ) (resource : Resource) (r s : Request) (answer : Answer) → AreAlike r s
    → SelectTheSame r.fields s.fields → IsAnswer present resource r answer ↔ IsAnswer present resource s answer

read_only : (stored method : List ℕ) → AllowsMethod stored method → stored ≢ codes "OPTIONS"
read_only stored method (inl h) e = absurd (cc (h.0, e))
read_only stored method (inr h) e = absurd (cc (h.0, e))

pub suited : VaryIsSound → MembersSelect → (present : ℕ) (resource : Resource) (r s : Request) (a b : Answer)
    (before : LineMap) → IsAnswer present resource r a → IsAnswer present resource s b → AreAlike r s
    → Suits (asked r) (asked s) (set_all before (fields_of a.fields.items)) → AreSame a b
suited sound members present resource r s a b before h k alike suits =
    let varying = set_all before (fields_of a.fields.items) (codes "vary") in
    let near : IsAnswer present resource (middle varying r s alike suits.fields) b =
    (members present resource s (middle varying r s alike suits.fields) b (second varying r s alike suits.fields)
    (select varying r s alike suits.fields)).0 k in
    sound present resource r (middle varying r s alike suits.fields) a b before h near
    (first varying r s alike suits.fields) (read_only _ _ suits.method) (serves varying r s alike suits.fields)
