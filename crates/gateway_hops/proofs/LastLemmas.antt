-- The element of a gateway is one member, and the last one.
use Rattle.std.proofs.Common.{◌≡◌, ℕ, ◌-◌, ◌<◌, Bool, true, false, not, List, [], ◌∷◌, ◌++◌, Option, Some, None, length}
use Rattle.std.proofs.Common.{IsTrue, ap, append_assoc, arith, codes, drop, inl, inr, map, refl, subst, sym, take, ◌∙◌}
use Rattle.std.proofs.lemmas.{Bool.{and_from, and_parts, cases_Bool, ne_eqb, or_parts}, List.append-nil}
use Rattle.std.proofs.lemmas.List.{reverse-append, take_all, Elements.{All-head, All-tail}, Folds.list_all-append}
use Rattle.std.specs.{Prelude.{◌&&◌, ◌||◌, ◌==◌, if◌then◌else◌, option_map, reverse}, List.{flat_map, list_all}}
use Rattle.{std.specs.List.{prefix_len, suffix_len}, http_header.specs.{FieldValue.IsFieldValue, Token.is_token_byte}}
use Rattle.{http_header.{specs.Token.is_value_byte, proofs.TokenLemmas.token_byte_range}, headers.specs.Lines.Line}
use Rattle.headers_syntax.{specs.Text.{is_blank, trim, trim_end}, proofs.PlainLemmas.list_all-weaker}
use Rattle.rfc_fields.specs.Grammar as Grammar
use Rattle.rfc_fields.specs.Grammar.{Element, IsSeparator, Octet, Octet.{Pair, Plain}, comma, is_bare, is_element}
use Rattle.rfc_fields.specs.Grammar.{is_octet, octet_text, backslash, quote, Part.{Byte, Quoted}}
use Rattle.rfc_fields.specs.{Laws.{JoinKeepsMembers, ParsesOneWay}, Members.{combined, field_members, is_well_formed}}
use Rattle.rfc_fields.specs.{Members.{members, members_of}, Scan.{Member, Member.Whole}, Values.{is_token, value_text}}
use Rattle.gateway_hops.specs.{Arrivals.{ArrivalParts, scheme_text}, Elements.{element_text, escaped, optional_pair}}
use Rattle.gateway_hops.specs.{Elements.{pair_text, quoted_text, value_of}, Fields.{believes, forwarded_lines, kept_if}}
use Rattle.gateway_hops.specs.{Last.{EndsWith, IsTold}, Nodes.node_text, declared.arrival.Scheme.Scheme}
use Rattle.gateway_hops.specs.declared.{arrival.Scheme.TheVariants.{Http, Https}, fields.Forwarding.Forwarding}
use Rattle.gateway_hops.{specs.declared.node.Node.Node, proofs.ElementLemmas.{is_special, scheme_valid}}

-- ---- the element by the grammar of lists

-- the text is an element of a list
record IsListed (text : Line) : Type 0 where
  parts : Element
  written : Grammar.element_text parts ≡ text
  valid : is_element comma true parts ≡ true

element_text-append : (p q : Element) → Grammar.element_text (p ++ q) ≡ Grammar.element_text p ++ Grammar.element_text q
element_text-append [] q = refl
element_text-append (part ∷ p) q = ap (λ (s : Line). Grammar.part_text part ++ s) (element_text-append p q)
    ∙ sym (append_assoc (Grammar.part_text part) (Grammar.element_text p) (Grammar.element_text q))

both_listed : (s t : Line) → IsListed s → IsListed t → IsListed (s ++ t)
both_listed s t a b = record {
  parts = a.parts ++ b.parts;
  written = element_text-append a.parts b.parts
      ∙ ap (λ (x : Line). x ++ Grammar.element_text b.parts) a.written ∙ ap (λ (x : Line). s ++ x) b.written;
  valid = list_all-append (Grammar.is_part comma true) a.parts b.parts ∙ and_from _ _ a.valid b.valid;
}

none_listed : IsListed []
none_listed = record { parts = []; written = refl; valid = refl }

bytes_text : (s : Line) → Grammar.element_text (map Byte s) ≡ s
bytes_text [] = refl
bytes_text (b ∷ s) = ap (λ (t : Line). b ∷ t) (bytes_text s)

bytes_bare : (s : Line) → list_all (is_bare comma) s ≡ true → is_element comma true (map Byte s) ≡ true
bytes_bare [] h = refl
bytes_bare (b ∷ s) h =
    let p = and_parts (is_bare comma b) (list_all (is_bare comma) s) h in
    and_from _ _ p.0 (bytes_bare s p.1)

bytes_listed : (s : Line) → list_all (is_bare comma) s ≡ true → IsListed s
bytes_listed s h = record { parts = map Byte s; written = bytes_text s; valid = bytes_bare s h }

no_mark : (mark b : ℕ) → (is_token_byte mark ≡ true → ⊥) → is_token_byte b ≡ true → (b == mark) ≡ false
no_mark mark b none t = ne_eqb b mark (λ e. none (ap is_token_byte (sym e) ∙ t))

quote_no_token : is_token_byte 34 ≡ true → ⊥
unfolding is_token_byte
quote_no_token e = cc e

comma_no_token : is_token_byte 44 ≡ true → ⊥
unfolding is_token_byte
comma_no_token e = cc e

token_value : (b : ℕ) → is_token_byte b ≡ true → is_value_byte b ≡ true
token_value b t = let range = token_byte_range b t in grind (arith, range)

token_bare : (b : ℕ) → is_token_byte b ≡ true → is_bare comma b ≡ true
token_bare b t = rw (token_value b t, no_mark 34 b quote_no_token t, no_mark 44 b comma_no_token t) refl

-- ---- values

octet_of : ℕ → Octet
octet_of b = if is_special b then Pair b else Plain b

octet_written : (b : ℕ) → octet_text (octet_of b) ≡ escaped b
unfolding octet_of
octet_written b = elim (cases_Bool (is_special b)) [ inl t ↦ rw t refl | inr f ↦ rw f refl ]

octet_valid : (b : ℕ) → IsTrue (is_value_byte b) → is_octet true (octet_of b) ≡ true
unfolding octet_of
octet_valid b valid = elim (cases_Bool (is_special b)) [
  | inl t ↦ rw t (rw valid refl)
  | inr f ↦ let p = or_parts (b == quote) (b == backslash) f in rw f (rw (valid, p.0, p.1) refl)
]

octets_written : (s : Line) → flat_map octet_text (map octet_of s) ≡ flat_map escaped s
octets_written [] = refl
octets_written (b ∷ s) = ap (λ (x : Line). x ++ flat_map octet_text (map octet_of s)) (octet_written b)
    ∙ ap (λ (x : Line). escaped b ++ x) (octets_written s)

octets_valid : (s : Line) → IsFieldValue s → list_all (is_octet true) (map octet_of s) ≡ true
octets_valid [] valid = refl
octets_valid (b ∷ s) valid = and_from _ _ (octet_valid b (All-head (λ c. IsTrue (is_value_byte c)) b s valid))
    (octets_valid s (All-tail (λ c. IsTrue (is_value_byte c)) b s valid))

quoted_listed : (s : Line) → IsFieldValue s → IsListed (quoted_text s)
quoted_listed s valid = record {
  parts = Quoted (map octet_of s) ∷ [];
  written = append-nil (quote ∷ (flat_map octet_text (map octet_of s) ++ quote ∷ []))
      ∙ ap (λ (x : Line). quote ∷ (x ++ quote ∷ [])) (octets_written s);
  valid = and_from _ _ (octets_valid s valid) refl;
}

value_listed : (s : Line) → IsFieldValue s → IsListed (value_text (value_of s))
value_listed s valid = elim (cases_Bool (is_token s)) [
  | inl t ↦
      let bytes = (and_parts (not (length s == 0)) (list_all is_token_byte s) t).1 in
      rw t (bytes_listed s (list_all-weaker is_token_byte (is_bare comma) token_bare s bytes))
  | inr f ↦ rw f (quoted_listed s valid)
]

pair_listed : (name s : Line) → list_all (is_bare comma) name ≡ true → IsFieldValue s → IsListed (pair_text name s)
pair_listed name s bare valid = both_listed name (codes "=" ++ value_text (value_of s)) (bytes_listed name bare)
    (both_listed (codes "=") (value_text (value_of s)) (bytes_listed (codes "=") refl) (value_listed s valid))

optional_listed : (name : Line) (o : Option Line) → list_all (is_bare comma) name ≡ true
    → ((s : Line) → o ≡ Some s → IsFieldValue s) → IsListed (optional_pair name o)
optional_listed name None bare valid = none_listed
optional_listed name (Some s) bare valid =
    both_listed (codes ";") (pair_text name s) (bytes_listed (codes ";") refl) (pair_listed name s bare (valid s refl))

interface_valid : (o : Option Node) → ((node : Node) → o ≡ Some node → IsFieldValue (node_text node)) → (s : Line)
    → option_map node_text o ≡ Some s → IsFieldValue s
interface_valid None valid s e = absurd (cc e)
interface_valid (Some node) valid s e =
    let same : node_text node ≡ s = cc e in subst IsFieldValue same (valid node refl)

element_listed : (arrival : ArrivalParts) → IsTold arrival → IsListed (element_text arrival)
element_listed arrival told = both_listed (pair_text (codes "for") (node_text arrival.client)) _
    (pair_listed (codes "for") (node_text arrival.client) refl told.client)
    (both_listed (optional_pair (codes "by") (option_map node_text arrival.interface)) _
    (optional_listed (codes "by") (option_map node_text arrival.interface) refl
    (interface_valid arrival.interface told.interface)) (both_listed (optional_pair (codes "host") arrival.host) _
    (optional_listed (codes "host") arrival.host refl told.host)
    (optional_listed (codes "proto") (Some (scheme_text arrival.scheme)) refl
    (λ s e. let same : scheme_text arrival.scheme ≡ s = cc e in
    subst IsFieldValue same (scheme_valid arrival.scheme)))))

-- ---- no blank at either end

ends : (front : Line) (last : ℕ) → is_blank last ≡ false → trim_end (front ++ last ∷ []) ≡ front ++ last ∷ []
ends front last h =
    let s = front ++ last ∷ [] in
    let none : suffix_len is_blank s ≡ 0 = ap (prefix_len is_blank) (reverse-append front (last ∷ [])) ∙ rw h refl in
    ap (λ n. take n s) (ap (λ k. length s - k) none) ∙ take_all (length s - 0) s (omega arith)

-- a text before the scheme
record EndsVisibly (s : Line) : Type 0 where
  front : Line
  last : ℕ
  is : s ≡ front ++ last ∷ []
  visible : is_blank last ≡ false

scheme_ends : (scheme : Scheme) → EndsVisibly (optional_pair (codes "proto") (Some (scheme_text scheme)))
unfolding is_token_byte
scheme_ends Http = record { front = codes ";proto=htt"; last = 112; is = refl; visible = refl }
scheme_ends Https = record { front = codes ";proto=http"; last = 115; is = refl; visible = refl }

behind : (s t : Line) → EndsVisibly t → EndsVisibly (s ++ t)
behind s t e = record {
  front = s ++ e.front;
  last = e.last;
  is = ap (λ (x : Line). s ++ x) e.is ∙ sym (append_assoc s e.front (e.last ∷ []));
  visible = e.visible;
}

element_ends : (arrival : ArrivalParts) → EndsVisibly (element_text arrival)
element_ends arrival = behind (pair_text (codes "for") (node_text arrival.client)) _
    (behind (optional_pair (codes "by") (option_map node_text arrival.interface)) _
    (behind (optional_pair (codes "host") arrival.host) _ (scheme_ends arrival.scheme)))

element_trimmed : (arrival : ArrivalParts) → trim (element_text arrival) ≡ element_text arrival
element_trimmed arrival =
    let e = element_ends arrival in
    ap trim_end e.is ∙ ends e.front e.last e.visible ∙ sym e.is

-- ---- the last member

separates : IsSeparator comma
separates = record { value = refl; not_quote = refl; quote_not = refl }

parsed : ParsesOneWay → (s : Line) → IsListed s
    → (is_well_formed s ≡ true) × (members true s ≡ members_of (Whole s ∷ []))
parsed parses s l =
    let valid : list_all (is_element comma true) (l.parts ∷ []) ≡ true = and_from _ _ l.valid refl in
    let p = parses comma true l.parts [] separates valid in (
      ap is_well_formed (sym l.written) ∙ p.0,
      ap (λ (t : Line). members true t) (sym l.written) ∙ ap members_of p.1
          ∙ ap (λ (t : Line). members_of (Whole t ∷ [])) l.written,
    )

element_member : ParsesOneWay → (arrival : ArrivalParts) → IsTold arrival
    → (is_well_formed (element_text arrival) ≡ true)
    × (members true (element_text arrival) ≡ Whole (element_text arrival) ∷ [])
element_member parses arrival told =
    let p = parsed parses (element_text arrival) (element_listed arrival told) in
    let some : (length (element_text arrival) == 0) ≡ false
    = ne_eqb (length (element_text arrival)) 0 (λ e. omega (arith, e)) in
    (p.0, p.1 ∙ rw (element_trimmed arrival) (rw some refl))

field_members-append : (lines others : List Line)
    → field_members true (lines ++ others) ≡ field_members true lines ++ field_members true others
field_members-append [] others = refl
field_members-append (line ∷ lines) others =
    ap (λ (ms : List Member). members true line ++ ms) (field_members-append lines others)
    ∙ sym (append_assoc (members true line) (field_members true lines) (field_members true others))

kept_well_formed : (keeps : Bool) (received : List Line)
    → list_all is_well_formed (kept_if (keeps && list_all is_well_formed received) received) ≡ true
kept_well_formed keeps received = elim (cases_Bool (keeps && list_all is_well_formed received)) [
  | inl t ↦ rw t (and_parts keeps (list_all is_well_formed received) t).1
  | inr f ↦ rw f refl
]

pub own_last : ParsesOneWay → JoinKeepsMembers → (forwarding : Forwarding) (arrival : ArrivalParts)
    (received : List Line) → forwarding.writes_forwarded ≡ true → IsTold arrival
    → EndsWith (forwarded_lines forwarding arrival received) (element_text arrival)
own_last parses joins forwarding arrival received writes told =
    let element = element_text arrival in
    let kept = kept_if (believes forwarding arrival && list_all is_well_formed received) received in
    let lines = forwarded_lines forwarding arrival received in
    let own = element_member parses arrival told in
    let follows : lines ≡ kept ++ element ∷ [] = rw writes refl in
    let well_formed : list_all is_well_formed lines ≡ true
    = ap (list_all is_well_formed) follows ∙ list_all-append is_well_formed kept (element ∷ [])
    ∙ and_from _ _ (kept_well_formed (believes forwarding arrival) received) (and_from _ _ own.0 refl) in
    record {
      kept = kept;
      follows = follows;
      well_formed = well_formed;
      last = (joins true lines well_formed).1 ∙ ap (field_members true) follows
          ∙ field_members-append kept (element ∷ [])
          ∙ ap (λ (ms : List Member). field_members true kept ++ (ms ++ [])) own.1;
    }
