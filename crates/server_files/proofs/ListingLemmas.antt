-- The page that lists the names in a folder: what it shows, and where its links lead.
use Rattle.std.proofs.Common.{◌≡◌, ℕ, ◌+◌, ◌<◌, Bool, true, false, not, ◌||◌, ◌==◌, List, [], ◌∷◌, ◌++◌, refl, sym, ap}
use Rattle.std.proofs.Common.{subst, ◌∙◌, append-nil, append_assoc, arith, get_or, length, map, take}
use Rattle.std.{proofs.lemmas.Bool.Decides.nat_tests, proofs.lemmas.List.Elements.{All-append, All-cons, All-head}}
use Rattle.std.{proofs.lemmas.List.Elements.{All-nil, All-tail, All-weaker}, proofs.lemmas.List.{map-append, take_more}}
use Rattle.std.{proofs.lemmas.List.Concat.flat_map-append, proofs.lemmas.List.Splits.{slice_split_at, slice_split_none}}
use Rattle.std.{specs.List.list_all, specs.Prelude.{All, codes, filter, flat_map, if◌then◌else◌, string_bytes, String}}
use Rattle.percent_encoding.proofs.PercentLemmas.{All-percent_encode_byte, IsByte, IsEscapeByte, percent_decode-nil}
use Rattle.percent_encoding.proofs.PercentLemmas.{percent_decode-percent_encode_byte, percent_decode_not_percent}
use Rattle.percent_encoding.specs.Percent.{percent_decode, percent_encode_byte}
use Rattle.server_files.specs.Listings.{is_escaped, is_unreserved, item, link, link_byte, listing_page, quoted, seconds}
use Rattle.server_files.{specs.Listings.{is_listable, listable, shown, shown_byte}, specs.Pages.page_with}

-- ---- what is shown

escaped_by : (and less greater quote apostrophe : Bool) (byte : ℕ) (text : List ℕ) → (byte == 38) ≡ and
    → (byte == 60) ≡ less → (byte == 62) ≡ greater → (byte == 34) ≡ quote → (byte == 39) ≡ apostrophe
    → is_escaped text ≡ true → is_escaped ((if and then codes "&amp;" else (if less then codes "&lt;"
    else (if greater then codes "&gt;"
    else (if quote then codes "&quot;" else (if apostrophe then codes "&#39;" else byte ∷ []))))) ++ text) ≡ true
escaped_by true less greater quote apostrophe byte text a l g q p h = h
escaped_by false true greater quote apostrophe byte text a l g q p h = h
escaped_by false false true quote apostrophe byte text a l g q p h = h
escaped_by false false false true apostrophe byte text a l g q p h = h
escaped_by false false false false true byte text a l g q p h = h
escaped_by false false false false false byte text a l g q p h = rw (a, l, g, q, p) h

-- what is shown of a text is escaped
pub shown_is_escaped : (text : List ℕ) → is_escaped (shown text) ≡ true
shown_is_escaped [] = refl
shown_is_escaped (byte ∷ text) = escaped_by (byte == 38) (byte == 60) (byte == 62) (byte == 34) (byte == 39) byte
    (shown text) refl refl refl refl refl (shown_is_escaped text)

-- ---- links

-- it stands for itself in a link
abbrev is_plain_in_link : ℕ → Bool
is_plain_in_link byte = is_unreserved byte || (byte == 47)

no_percent : (byte : ℕ) → is_plain_in_link byte ≡ true → byte ≡ 37 → ⊥
no_percent byte plain percent =
    let no : is_plain_in_link 37 ≡ true = subst (λ (b : ℕ). is_plain_in_link b ≡ true) percent plain in absurd (cc no)

decoded_by : (plain : Bool) (byte : ℕ) (rest : List ℕ) → byte < 256 → is_plain_in_link byte ≡ plain
    → percent_decode ((if plain then byte ∷ [] else percent_encode_byte byte) ++ rest) ≡ byte ∷ percent_decode rest
decoded_by true byte rest small plain = percent_decode_not_percent byte rest (no_percent byte plain)
decoded_by false byte rest small plain = percent_decode-percent_encode_byte byte rest small

-- a link decodes to its name
pub link_decodes : (name : List ℕ) → All IsByte name → percent_decode (link name) ≡ name
link_decodes [] small = percent_decode-nil
link_decodes (byte ∷ name) small =
    decoded_by (is_plain_in_link byte) byte (link name) (All-head IsByte byte name small) refl
    ∙ ap (λ (l : List ℕ). byte ∷ l) (link_decodes name (All-tail IsByte byte name small))

links_decode : (names : List (List ℕ)) → All (All IsByte) names → map percent_decode (map link names) ≡ names
links_decode [] small = refl
links_decode (name ∷ names) small = ap (λ (l : List ℕ). l ∷ map percent_decode (map link names))
    (link_decodes name (All-head (All IsByte) name names small))
    ∙ ap (λ (l : List (List ℕ)). name ∷ l) (links_decode names (All-tail (All IsByte) name names small))

-- ---- quotes

abbrev NoQuote : ℕ → Type 0
NoQuote byte = (byte == 34) ≡ false

-- a text that is known
none_in : (text : List ℕ) → list_all (λ byte. not (byte == 34)) text ≡ true → All NoQuote text
none_in [] none = All-nil NoQuote
none_in (byte ∷ text) none =
    let first : (byte == 34) ≡ false = grind (arith, nat_tests) in
    let others : list_all (λ b. not (b == 34)) text ≡ true = grind (arith, nat_tests) in
    All-cons NoQuote byte text first (none_in text others)

none_in_all : (of : ℕ → List ℕ) (text : List ℕ) → ((byte : ℕ) → All NoQuote (of byte)) → All NoQuote (flat_map of text)
none_in_all of [] none = All-nil NoQuote
none_in_all of (byte ∷ text) none =
    All-append NoQuote (of byte) (flat_map of text) (none byte) (none_in_all of text none)

one_byte : (byte : ℕ) → NoQuote byte → All NoQuote (byte ∷ [])
one_byte byte none = All-cons NoQuote byte [] none (All-nil NoQuote)

shown_by : (and less greater quote apostrophe : Bool) (byte : ℕ) → (byte == 34) ≡ quote
    → All NoQuote (if and then codes "&amp;" else (if less then codes "&lt;" else (if greater then codes "&gt;"
    else (if quote then codes "&quot;" else (if apostrophe then codes "&#39;" else byte ∷ [])))))
shown_by true less greater quote apostrophe byte q = none_in (codes "&amp;") refl
shown_by false true greater quote apostrophe byte q = none_in (codes "&lt;") refl
shown_by false false true quote apostrophe byte q = none_in (codes "&gt;") refl
shown_by false false false true apostrophe byte q = none_in (codes "&quot;") refl
shown_by false false false false true byte q = none_in (codes "&#39;") refl
shown_by false false false false false byte q = one_byte byte q

none_in_shown : (text : List ℕ) → All NoQuote (shown text)
none_in_shown text = none_in_all shown_byte text
    (λ byte. shown_by (byte == 38) (byte == 60) (byte == 62) (byte == 34) (byte == 39) byte refl)

no_quote : (byte : ℕ) → is_plain_in_link byte ≡ true → NoQuote byte
no_quote byte plain = by_test (byte == 34) refl
  where
    by_test : (quote : Bool) → (byte == 34) ≡ quote → quote ≡ false
    by_test false e = refl
    by_test true e = let same : byte ≡ 34 = grind (arith, nat_tests) in
        let no : is_plain_in_link 34 ≡ true = subst (λ (b : ℕ). is_plain_in_link b ≡ true) same plain in absurd (cc no)

escape_byte : (byte : ℕ) → IsEscapeByte byte → NoQuote byte
escape_byte byte h = grind (arith, nat_tests)

link_by : (plain : Bool) (byte : ℕ) → is_plain_in_link byte ≡ plain
    → All NoQuote (if plain then byte ∷ [] else percent_encode_byte byte)
link_by true byte plain = one_byte byte (no_quote byte plain)
link_by false byte plain =
    All-weaker IsEscapeByte NoQuote escape_byte (percent_encode_byte byte) (All-percent_encode_byte byte)

none_in_link : (name : List ℕ) → All NoQuote (link name)
none_in_link name = none_in_all link_byte name (λ byte. link_by (is_plain_in_link byte) byte refl)

quoted_none : (text : List ℕ) → All NoQuote text → quoted text ≡ []
quoted_none text none = ap seconds (slice_split_none (λ byte. byte == 34) text none)

-- the first value, and those after it
quoted_at : (front value rest : List ℕ) → All NoQuote front → All NoQuote value
    → quoted (front ++ 34 ∷ (value ++ 34 ∷ rest)) ≡ value ∷ quoted rest
quoted_at front value rest before within = ap seconds
    (slice_split_at (λ byte. byte == 34) front 34 (value ++ 34 ∷ rest) before refl
    ∙ ap (λ (l : List (List ℕ)). front ∷ l) (slice_split_at (λ byte. byte == 34) value 34 rest within refl))

-- ---- the items of a page

abbrev foot : List ℕ
foot = codes "</ul>\n"

-- what follows a link in its item
abbrev after_link : List ℕ → List ℕ
after_link name = codes ">" ++ shown name ++ codes "</a>\n"

none_after_link : (name : List ℕ) → All NoQuote (after_link name)
none_after_link name = All-append NoQuote (codes ">" ++ shown name) (codes "</a>\n")
    (All-append NoQuote (codes ">") (shown name) (none_in (codes ">") refl) (none_in_shown name))
    (none_in (codes "</a>\n") refl)

flat_item : (f a l b s c r z : List ℕ)
    → (f ++ (((((a ++ l) ++ b) ++ s) ++ c) ++ r)) ++ z ≡ f ++ (a ++ (l ++ (b ++ (s ++ (c ++ (r ++ z))))))
flat_item f a l b s c r z = simp append_assoc refl

flat_cut : (f a l b s c r z : List ℕ) → (f ++ a) ++ (34 ∷ (l ++ (34 ∷ ((((b ++ s) ++ c) ++ r) ++ z))))
    ≡ f ++ (a ++ (34 ∷ (l ++ (34 ∷ (b ++ (s ++ (c ++ (r ++ z))))))))
flat_cut f a l b s c r z = simp append_assoc refl

items_quoted : (names : List (List ℕ)) (front : List ℕ) → All NoQuote front
    → quoted ((front ++ flat_map item names) ++ foot) ≡ map link names
items_quoted [] front before = ap (λ (l : List ℕ). quoted (l ++ foot)) (append-nil front)
    ∙ quoted_none (front ++ foot) (All-append NoQuote front foot before (none_in foot refl))
items_quoted (name ∷ names) front before =
    let rest : List ℕ = flat_map item names in
    let cut : (front ++ (item name ++ rest)) ++ foot
    ≡ (front ++ codes "<li><a href=") ++ (34 ∷ (link name ++ (34 ∷ ((after_link name ++ rest) ++ foot)))) =
    flat_item front (codes "<li><a href=\"") (link name) (codes "\">") (shown name) (codes "</a>\n") rest foot
    ∙ sym (flat_cut front (codes "<li><a href=") (link name) (codes ">") (shown name) (codes "</a>\n") rest foot) in
    ap quoted cut
    ∙ quoted_at (front ++ codes "<li><a href=") (link name) ((after_link name ++ rest) ++ foot)
    (All-append NoQuote front (codes "<li><a href=") before (none_in (codes "<li><a href=") refl)) (none_in_link name)
    ∙ ap (λ (l : List (List ℕ)). link name ∷ l) (items_quoted names (after_link name) (none_after_link name))

none_in_title : (folder : List ℕ) → All NoQuote (codes "Index of /" ++ shown folder)
none_in_title folder =
    All-append NoQuote (codes "Index of /") (shown folder) (none_in (codes "Index of /") refl) (none_in_shown folder)

none_between : (before text after : List ℕ) → All NoQuote before → All NoQuote text → All NoQuote after
    → All NoQuote (before ++ text ++ after)
none_between before text after b t a = All-append NoQuote (before ++ text) after (All-append NoQuote before text b t) a

none_in_page : (text : List ℕ) → All NoQuote text → All NoQuote (page_with text)
none_in_page text none = All-append NoQuote (codes "<!DOCTYPE html>\n<title>" ++ text ++ codes "</title>\n")
    (codes "<h1>" ++ text ++ codes "</h1>\n") (none_between (codes "<!DOCTYPE html>\n<title>") text (codes "</title>\n")
    (none_in (codes "<!DOCTYPE html>\n<title>") refl) none (none_in (codes "</title>\n") refl))
    (none_between (codes "<h1>") text (codes "</h1>\n") (none_in (codes "<h1>") refl) none
    (none_in (codes "</h1>\n") refl))

-- the links of the page decode to the folder above and to the names, in order
pub page_links : (folder : List ℕ) (names : List (List ℕ)) → All (All IsByte) names
    → map percent_decode (quoted (listing_page folder names)) ≡ codes "../" ∷ names
page_links folder names small =
    let title : List ℕ = codes "Index of /" ++ shown folder in
    let front : All NoQuote (page_with title ++ codes "<ul>\n") = All-append NoQuote (page_with title) (codes "<ul>\n")
    (none_in_page title (none_in_title folder)) (none_in (codes "<ul>\n") refl) in
    ap (map percent_decode) (items_quoted (codes "../" ∷ names) (page_with title ++ codes "<ul>\n") front)
    ∙ links_decode (codes "../" ∷ names) (All-cons (All IsByte) (codes "../") names up small)
  where
    up : All IsByte (codes "../")
    up = All-cons IsByte 46 (46 ∷ 47 ∷ []) (omega arith)
        (All-cons IsByte 46 (47 ∷ []) (omega arith) (All-cons IsByte 47 [] (omega arith) (All-nil IsByte)))

-- ---- what the calls make

-- five texts, pushed one after the other
pub pushed : (t a l b s c t1 t2 t3 t4 t5 : List ℕ) → t1 ≡ t ++ a → t2 ≡ t1 ++ l → t3 ≡ t2 ++ b → t4 ≡ t3 ++ s
    → t5 ≡ t4 ++ c → t5 ≡ t ++ ((((a ++ l) ++ b) ++ s) ++ c)
pushed t a l b s c t1 t2 t3 t4 t5 e1 e2 e3 e4 e5 =
    let flat : ((((t ++ a) ++ l) ++ b) ++ s) ++ c ≡ t ++ ((((a ++ l) ++ b) ++ s) ++ c) = simp append_assoc refl in
    e5
    ∙ ap (λ (x : List ℕ). x ++ c)
    (e4 ∙ ap (λ (x : List ℕ). x ++ s) (e3 ∙ ap (λ (x : List ℕ). x ++ b) (e2 ∙ ap (λ (x : List ℕ). x ++ l) e1)))
    ∙ flat

-- the items of the first names, and the next
pub items_more : {A : Type 0} (names : List (String A)) (i : ℕ) (name : String A) (t t1 t2 : List ℕ) → i < length names
    → name ≡ get_or names i name → t1 ≡ t ++ flat_map item (map string_bytes (take i names))
    → t2 ≡ t1 ++ item (string_bytes name) → t2 ≡ t ++ flat_map item (map string_bytes (take (i + 1) names))
items_more {A} names i name t t1 t2 within is e1 e2 =
    let before : List ℕ = flat_map item (map string_bytes (take i names)) in
    let more : take (i + 1) names ≡ take i names ++ name ∷ [] =
    take_more names i name within ∙ ap (λ (n : String A). take i names ++ n ∷ []) (sym is) in
    let step : flat_map item (map string_bytes (take (i + 1) names)) ≡ before ++ item (string_bytes name) =
    ap (λ (l : List (String A)). flat_map item (map string_bytes l)) more
    ∙ ap (flat_map item) (map-append string_bytes (take i names) (name ∷ []))
    ∙ flat_map-append item (map string_bytes (take i names)) (string_bytes name ∷ [])
    ∙ ap (λ (l : List ℕ). before ++ l) (append-nil (item (string_bytes name))) in
    e2
    ∙ ap (λ (x : List ℕ). x ++ item (string_bytes name)) e1
    ∙ append_assoc t before (item (string_bytes name))
    ∙ ap (λ (l : List ℕ). t ++ l) (sym step)

-- the parts of a page, pushed one after the other
pub page_made : (p u i m f t0 t1 t2 t3 t4 : List ℕ) → t0 ≡ p → t1 ≡ t0 ++ u → t2 ≡ t1 ++ i → t3 ≡ t2 ++ m → t4 ≡ t3 ++ f
    → t4 ≡ ((p ++ u) ++ (i ++ m)) ++ f
page_made p u i m f t0 t1 t2 t3 t4 e0 e1 e2 e3 e4 = e4
    ∙ ap (λ (x : List ℕ). x ++ f) (e3
    ∙ ap (λ (x : List ℕ). x ++ m) (e2 ∙ ap (λ (x : List ℕ). x ++ i) (e1 ∙ ap (λ (x : List ℕ). x ++ u) e0))
    ∙ append_assoc (p ++ u) i m)

-- those that may be listed may be listed
filtered_by : {X : Type 0} (p : X → Bool) (x : X) (xs : List X) (kept : Bool) → p x ≡ kept
    → All (λ (y : X). p y ≡ true) xs → All (λ (y : X). p y ≡ true) (if kept then x ∷ xs else xs)
filtered_by p x xs true e others = All-cons (λ y. p y ≡ true) x xs e others
filtered_by p x xs false e others = others

filtered : {X : Type 0} (p : X → Bool) (xs : List X) → All (λ (x : X). p x ≡ true) (filter p xs)
filtered p [] = All-nil (λ x. p x ≡ true)
filtered p (x ∷ xs) = filtered_by p x (filter p xs) (p x) refl (filtered p xs)

pub all_listable : {A : Type 0} (names : List (String A))
    → All (λ (name : String A). is_listable (string_bytes name) ≡ true) (listable names)
all_listable {A} names = filtered (λ (name : String A). is_listable (string_bytes name)) names
