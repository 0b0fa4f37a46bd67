-- Each encoded directive decodes to itself alone.
use Rattle.std.proofs.Common.{◌≡◌, ℕ, ◌^◌, ◌<◌, Bool, true, false, not, ◌&&◌, ◌==◌, nat_lt, cond, List, [], ◌∷◌, ◌++◌}
use Rattle.std.proofs.Common.{length, filter, Option, Some, None, is_none, refl, sym, ◌∙◌, ap, subst, inl, inr, arith}
use Rattle.std.{proofs.Common.{length-append, slice_index_or}, specs.Char.to_ascii_lowercase, specs.Fmt.decimal}
use Rattle.std.specs.List.{list_any, list_all, last_or, flat_map, AllByRecursion, before_first, after_first}
use Rattle.std.{specs.Option.option_and_then, proofs.Math.Bool.{and-true, and-false}, proofs.lemmas.Bool.cases_Bool}
use Rattle.std.proofs.lemmas.Bool.{and_from, or_right, lt-ltb, ne_eqb, false_from_ne_true}
use Rattle.std.{proofs.lemmas.List.map-append, proofs.lemmas.List.Folds.{list_any-append, list_all-append}}
use Rattle.std.{proofs.lemmas.List.Folds.list_any_none, proofs.lemmas.Map.Views.any-filter_same}
use Rattle.std.{proofs.lemmas.List.Elements.filter-append, proofs.lemmas.Slice.Eq.bytes_eq-Decides}
use Rattle.std.proofs.lemmas.Fmt.{decimal_nonempty}
use Rattle.http_header.specs.Token.{lowercase}
use Rattle.headers_syntax.{specs.Lines.Line, specs.Number.number, proofs.NumberLemmas.{number-decimal, number-lt}}
use Rattle.headers_syntax.{specs.Text.without_quotes, specs.AsciiCase.same_name, proofs.PlainLemmas.decimal_plain}
use Rattle.headers_syntax.proofs.PlainLemmas.{is_plain, is_piece, unquoted_piece}
use Rattle.headers_items.{specs.Entries.entries, specs.Pairs.is_equals, proofs.JoinedLemmas.entries_joined}
use Rattle.headers_caching.specs.CacheControl.{Directives, carries, number_in, is_bad, is_set, last_number, directives}
use Rattle.headers_caching.specs.CacheControl.{directives_of, lines_of_directives, flag_rows, number_rows, print_flag}
use Rattle.headers_caching.specs.CacheControl.{print_number, printed}

-- directives are equal if they agree in each entry of the table
pub same_rows : (a b : Directives) → AllByRecursion (λ row. row.1 a ≡ row.1 b) flag_rows
    → AllByRecursion (λ row. row.1 a ≡ row.1 b) number_rows → a ≡ b
same_rows a b flags numbers = λ i.
    record {
      no_cache = flags.0 i;
      no_store = flags.1.0 i;
      no_transform = flags.1.1.0 i;
      only_if_cached = flags.1.1.1.0 i;
      must_revalidate = flags.1.1.1.1.0 i;
      public = flags.1.1.1.1.1.0 i;
      private = flags.1.1.1.1.1.1.0 i;
      immutable = flags.1.1.1.1.1.1.1.0 i;
      must_understand = flags.1.1.1.1.1.1.1.1.0 i;
      proxy_revalidate = flags.1.1.1.1.1.1.1.1.1.0 i;
      max_age = numbers.0 i;
      max_stale = numbers.1.0 i;
      min_fresh = numbers.1.1.0 i;
      s_max_age = numbers.1.1.1.0 i;
    }

-- what holds of each element, and what two such facts give
pub every : {X : Type 0} (P : X → Type 0) → ((x : X) → P x) → (xs : List X) → AllByRecursion P xs
every P h [] = tt
every P h (x ∷ xs) = (h x, every P h xs)

pub both : {X : Type 0} (P Q R : X → Type 0) → ((x : X) → P x → Q x → R x) → (xs : List X) → AllByRecursion P xs
    → AllByRecursion Q xs → AllByRecursion R xs
both P Q R h [] ps qs = tt
both P Q R h (x ∷ xs) ps qs = (h x ps.0 qs.0, both P Q R h xs ps.1 qs.1)

-- equal directives agree in each entry of the table
pub rows_same : {V : Type 0} (a b : Directives) → a ≡ b → (rows : List (List ℕ × (Directives → V)))
    → AllByRecursion (λ row. row.1 a ≡ row.1 b) rows
rows_same a b e = every _ (λ row. ap row.1 e)

-- a number that is set is in the range of its type
abbrev pub FitsOption : Option ℕ → Type 0
FitsOption o = (n : ℕ) → o ≡ Some n → n < 2 ^ 64

abbrev pub FitRows : Directives → List (List ℕ × (Directives → Option ℕ)) → Type 0
FitRows d rows = AllByRecursion (λ row. FitsOption (row.1 d)) rows

-- pieces, each after a comma and a space
abbrev pub behind_commas : List (List ℕ) → List ℕ
behind_commas pieces = flat_map (λ piece. 44 ∷ 32 ∷ piece) pieces

-- ---- which of the encoded directives pass a test

-- a number's name is plain, and ends at the first `=`
abbrev IsNumberName : List ℕ → Type 0
IsNumberName name = (list_all is_plain name ≡ true)
    × ((ds : List ℕ) → (before_first is_equals (name ++ 61 ∷ ds) ≡ name)
    × (after_first is_equals (name ++ 61 ∷ ds) ≡ ds))

number_names : AllByRecursion (λ row. IsNumberName row.0) number_rows
number_names = (
  (refl, λ ds. (refl, refl)),
  ((refl, λ ds. (refl, refl)), ((refl, λ ds. (refl, refl)), ((refl, λ ds. (refl, refl)), tt))),
)

-- what is encoded of the entries whose names pass
abbrev of_rows : {V : Type 0} → (List ℕ → Bool) → (List ℕ → V → List (List ℕ)) → Directives
    → List (List ℕ × (Directives → V)) → List (List ℕ)
of_rows q print d rows = flat_map (λ row. cond (q row.0) (print row.0 (row.1 d)) []) rows

filter_rows : {V : Type 0} (p q : List ℕ → Bool) (print : List ℕ → V → List (List ℕ)) (d : Directives)
    (rows : List (List ℕ × (Directives → V)))
    → AllByRecursion (λ row. filter p (print row.0 (row.1 d)) ≡ cond (q row.0) (print row.0 (row.1 d)) []) rows
    → filter p (flat_map (λ row. print row.0 (row.1 d)) rows) ≡ of_rows q print d rows
filter_rows p q print d [] h = refl
filter_rows p q print d (row ∷ rows) h =
    filter-append p (print row.0 (row.1 d)) (flat_map (λ r. print r.0 (r.1 d)) rows)
    ∙ ap (λ r. r ++ filter p (flat_map (λ r. print r.0 (r.1 d)) rows)) h.0
    ∙ ap (λ r. cond (q row.0) (print row.0 (row.1 d)) [] ++ r) (filter_rows p q print d rows h.1)

flag_kept : (p : List ℕ → Bool) (name : List ℕ) (b : Bool)
    → filter p (print_flag name b) ≡ cond (p name) (print_flag name b) []
flag_kept p name true = elim (cases_Bool (p name)) [ inl y ↦ rw y refl | inr n ↦ rw n refl ]
flag_kept p name false = elim (cases_Bool (p name)) [ inl y ↦ rw y refl | inr n ↦ rw n refl ]

number_kept : (p : List ℕ → Bool) (name : List ℕ) (o : Option ℕ) (b : Bool) → FitsOption o
    → ((n : ℕ) → n < 2 ^ 64 → p (name ++ 61 ∷ decimal n) ≡ b)
    → filter p (print_number name o) ≡ cond b (print_number name o) []
number_kept p name None true f h = refl
number_kept p name None false f h = refl
number_kept p name (Some n) true f h = rw (h n (f n refl)) refl
number_kept p name (Some n) false f h = rw (h n (f n refl)) refl

-- a test of a number that depends on the number's name alone
abbrev GoesByName : (p q : List ℕ → Bool) → Type 0
GoesByName p q = (name : List ℕ) (n : ℕ) → IsNumberName name → n < 2 ^ 64 → p (name ++ 61 ∷ decimal n) ≡ q name

filter_printed : (p q : List ℕ → Bool) (d : Directives) → FitRows d number_rows → GoesByName p q
    → filter p (printed d) ≡ of_rows p print_flag d flag_rows ++ of_rows q print_number d number_rows
filter_printed p q d f h =
    let flags = filter_rows p p print_flag d flag_rows (every _ (λ row. flag_kept p row.0 (row.1 d)) flag_rows) in
    let numbers = filter_rows p q print_number d number_rows (both _ _ _
    (λ row is fits. number_kept p row.0 (row.1 d) (q row.0) fits (λ n. h row.0 n is)) number_rows number_names f) in
    filter-append p (flat_map (λ row. print_flag row.0 (row.1 d)) flag_rows)
    (flat_map (λ row. print_number row.0 (row.1 d)) number_rows)
    ∙ ap (λ r. r ++ filter p (flat_map (λ row. print_number row.0 (row.1 d)) number_rows)) flags
    ∙ ap (λ r. of_rows p print_flag d flag_rows ++ r) numbers

-- ---- what is encoded are pieces

number_piece : GoesByName is_piece (λ name. true)
number_piece name n is l =
    let long : nat_lt 0 (length (name ++ 61 ∷ decimal n)) ≡ true =
    lt-ltb _ _ (omega (arith, length-append name (61 ∷ decimal n))) in
    and_from _ _ long (list_all-append is_plain name (61 ∷ decimal n) ∙ and_from _ _ is.0 (decimal_plain n l))

all_kept : (p : List ℕ → Bool) (xs : List (List ℕ)) → list_all p (filter p xs) ≡ true
all_kept p [] = refl
all_kept p (x ∷ xs) =
    elim (cases_Bool (p x)) [ inl y ↦ rw (y, y) (all_kept p xs) | inr n ↦ rw n (all_kept p xs) ]

pub printed_pieces : (d : Directives) → FitRows d number_rows → list_all is_piece (printed d) ≡ true
printed_pieces d f =
    sym (ap (list_all is_piece) (filter_printed is_piece (λ name. true) d f number_piece))
    ∙ all_kept is_piece (printed d)

-- ---- flags

-- no flag's name has an `=`
pub flag_names : AllByRecursion (λ row. list_any is_equals (lowercase row.0) ≡ false) flag_rows
flag_names = (refl, (refl, (refl, (refl, (refl, (refl, (refl, (refl, (refl, (refl, tt))))))))))

-- a flag's name has no `=`, and the encoding of a number has one
pub no_flag : (flag name ds : List ℕ) → list_any is_equals (lowercase flag) ≡ false
    → same_name (name ++ 61 ∷ ds) flag ≡ false
no_flag flag name ds h =
    false_from_ne_true (same_name (name ++ 61 ∷ ds) flag)
    (λ e.
    let same = (bytes_eq-Decides (lowercase (name ++ 61 ∷ ds)) (lowercase flag)).0 e in
    let has : list_any is_equals (lowercase (name ++ 61 ∷ ds)) ≡ true =
    ap (list_any is_equals) (map-append to_ascii_lowercase name (61 ∷ ds))
    ∙ list_any-append is_equals (lowercase name) (61 ∷ lowercase ds)
    ∙ or_right (list_any is_equals (lowercase name)) true refl in
    absurd (cc (has, ap (list_any is_equals) same, h)))

flag_alone : (flag : List ℕ) (b : Bool) → is_set flag ((print_flag flag b ++ []) ++ []) ≡ b
flag_alone flag true = rw ((bytes_eq-Decides (lowercase flag) (lowercase flag)).1 refl) refl
flag_alone flag false = refl

printed_flags : (d : Directives) → FitRows d number_rows
    → AllByRecursion (λ row. is_set row.0 (printed d) ≡ row.1 d) flag_rows
printed_flags d f =
    both (λ row. list_any is_equals (lowercase row.0) ≡ false)
    (λ row. of_rows (λ name. same_name name row.0) print_flag d flag_rows ≡ print_flag row.0 (row.1 d) ++ []) _
    (λ row plain found.
    let p : List ℕ → Bool = λ entry. same_name entry row.0 in
    sym (any-filter_same p p true (λ entry e. e) (printed d))
    ∙ ap (list_any p) (filter_printed p (λ name. false) d f (λ name n is l. no_flag row.0 name (decimal n) plain)
    ∙ ap (λ r. r ++ []) found)
    ∙ flag_alone row.0 (row.1 d))
    flag_rows flag_names
    (refl, (refl, (refl, (refl, (refl, (refl, (refl, (refl, (refl, (refl, tt))))))))))

-- ---- numbers

number_printed : (name : List ℕ) (n : ℕ) → IsNumberName name → n < 2 ^ 64
    → number_in (name ++ 61 ∷ decimal n) ≡ Some n
number_printed name n is l =
    ap (λ r. number (without_quotes r)) (is.1 (decimal n)).1
    ∙ ap number (unquoted_piece (decimal n) (decimal_plain n l)) ∙ number-decimal n l

carries_printed : (directive : List ℕ) → GoesByName (carries directive) (λ name. same_name name directive)
carries_printed directive name n is l =
    let parts = is.1 (decimal n) in
    let some : (length (decimal n) == 0) ≡ false =
    ne_eqb (length (decimal n)) 0 (λ e. let h = decimal_nonempty n l in omega (arith, e, h)) in
    ap (λ r. same_name r directive && not (length (after_first is_equals (name ++ 61 ∷ decimal n)) == 0)) parts.0
    ∙ ap (λ r. same_name name directive && not (length r == 0)) parts.1
    ∙ ap (λ b. same_name name directive && not b) some ∙ and-true (same_name name directive)

number_alone : (name : List ℕ) (o : Option ℕ) → IsNumberName name → FitsOption o
    → option_and_then number_in (last_or None (print_number name o ++ [])) ≡ o
number_alone name None is f = refl
number_alone name (Some n) is f = number_printed name n is (f n refl)

printed_numbers : (d : Directives) → FitRows d number_rows
    → AllByRecursion (λ row. last_number row.0 (printed d) ≡ row.1 d) number_rows
printed_numbers d f =
    let found = both _ _ (λ row.
    of_rows (carries row.0) print_flag d flag_rows
    ++ of_rows (λ name. same_name name row.0) print_number d number_rows ≡ print_number row.0 (row.1 d) ++ []
    → last_number row.0 (printed d) ≡ row.1 d)
    (λ row is fits e.
    ap (λ r. option_and_then number_in (last_or None r))
    (filter_printed (carries row.0) (λ name. same_name name row.0) d f (carries_printed row.0) ∙ e)
    ∙ number_alone row.0 (row.1 d) is fits)
    number_rows number_names f in
    (found.0 refl, (found.1.0 refl, (found.1.1.0 refl, (found.1.1.1.0 refl, tt))))

-- ---- no encoded entry is bad

number_good : GoesByName is_bad (λ name. false)
number_good name n is l =
    let entry = name ++ 61 ∷ decimal n in
    ap (λ o. list_any (λ row. carries row.0 entry && is_none o) number_rows) (number_printed name n is l)
    ∙ list_any_none (λ (row : List ℕ × (Directives → Option ℕ)). carries row.0 entry && false) number_rows
    (λ k row at. and-false (carries (slice_index_or number_rows k row).0 entry))

printed_good : (d : Directives) → FitRows d number_rows → list_any is_bad (printed d) ≡ false
printed_good d f =
    sym (any-filter_same is_bad is_bad true (λ entry e. e) (printed d))
    ∙ ap (list_any is_bad) (filter_printed is_bad (λ name. false) d f number_good)

-- ---- all of it

-- the encoding of directives whose numbers fit decodes to them
pub reads_written : (d : Directives) → FitRows d number_rows → directives_of (lines_of_directives d) ≡ Some d
reads_written d f =
    let es : entries (lines_of_directives d) ≡ printed d = entries_joined (printed d) (printed_pieces d f) in
    let back = same_rows (directives (printed d)) d (printed_flags d f) (printed_numbers d f) in
    ap (λ xs. cond (list_any is_bad xs) None (Some (directives xs))) es
    ∙ rw (printed_good d f) (ap (λ (x : Directives). Some x) back)

-- a decoded number fits
number_fits : (name : List ℕ) (es : List (List ℕ)) → FitsOption (last_number name es)
number_fits name es n e = by (last_or None (filter (carries name) es)) e
  where
    by : (o : Option (List ℕ)) → option_and_then number_in o ≡ Some n → n < 2 ^ 64
    by None h = absurd (cc h)
    by (Some entry) h = number-lt (without_quotes (after_first is_equals entry)) n h

read_fits : (lines : List Line) (d : Directives) → directives_of lines ≡ Some d → FitRows d number_rows
read_fits lines d h =
    elim (cases_Bool (list_any is_bad (entries lines))) [
      | inl y ↦ let none : None ≡ Some d = rw y at h in absurd (cc none)
      | inr n ↦ let some : Some (directives (entries lines)) ≡ Some d = rw n at h in
          let same : directives (entries lines) ≡ d = cc some in
          let F : Directives → Type 0 = λ v. FitRows v number_rows in
          let Fits : List ℕ × (Directives → Option ℕ) → Type 0 =
          λ row. FitsOption (last_number row.0 (entries lines)) in
          subst F same (every Fits (λ row. number_fits row.0 (entries lines)) number_rows)
    ]

pub directives_back : (lines : List Line) (d : Directives) → directives_of lines ≡ Some d
    → directives_of (lines_of_directives d) ≡ Some d
directives_back lines d h = reads_written d (read_fits lines d h)

-- directives with equal encodings are equal
pub same_by_lines : (v w : Directives) → FitRows v number_rows → FitRows w number_rows
    → lines_of_directives v ≡ lines_of_directives w → v ≡ w
same_by_lines v w f g e =
    let a = reads_written v f in
    let b = reads_written w g in
    let s : Some v ≡ Some w = sym a ∙ ap directives_of e ∙ b in
    cc s
