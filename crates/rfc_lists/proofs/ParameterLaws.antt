-- Plain texts that are written as parameters.
use Rattle.std.proofs.Common.{◌≡◌, ◌∙◌, ℕ, Bool, true, false, cond, List, [], ◌∷◌, ◌++◌, map, Some, ap, refl}
use Rattle.std.{proofs.lemmas.Bool.and_parts, specs.{Prelude.{◌&&◌, ◌||◌, ◌==◌, not}, List.{flat_map, list_all}}}
use Rattle.{http_header.specs.Token.is_value_byte, rfc_fields.specs.Grammar.{Octet, Octet.{Pair, Plain}, backslash}}
use Rattle.rfc_fields.specs.{Grammar.{is_octet, octet_text, octet_value, quote}, Directives.DirectiveParts}
use Rattle.rfc_fields.specs.{Directives.{IsDirective, equals}, Laws.QuotedTextsParse, Values.ValueParts.QuotedText}
use Rattle.rfc_fields.specs.Values.{ValueParts.TokenText, is_quoted_text, is_token, octets_from}
use Rattle.rfc_lists.specs.{Extended.{extended_value, star}, Laws.{Means, ParametersReadBack}, Parameters.is_extended}
use Rattle.rfc_lists.specs.Parameters.{is_quoted, parameter_text, quoted_octet, quoted_string, value_text}
use Rattle.rfc_lists.specs.declared.parameters.ParameterKind.{ParameterKind}

abbrev octet_if : ℕ → Bool → Octet
octet_if b k = cond k (Pair b) (Plain b)

abbrev octet_for : ℕ → Octet
octet_for b = octet_if b (b == quote || b == backslash)

octet_written : (b : ℕ) (k : Bool) → cond k (backslash ∷ b ∷ []) (b ∷ []) ≡ octet_text (octet_if b k)
octet_written b true = refl
octet_written b false = refl

written : (text : List ℕ) → flat_map quoted_octet text ≡ flat_map octet_text (map octet_for text)
written [] = refl
written (b ∷ text) = ap (λ t. t ++ flat_map quoted_octet text) (octet_written b (b == quote || b == backslash))
    ∙ ap (λ t. octet_text (octet_for b) ++ t) (written text)

valid_octet : (b : ℕ) → is_value_byte b ≡ true → (j k : Bool) → (b == quote) ≡ j → (b == backslash) ≡ k
    → is_octet true (octet_if b (j || k)) ≡ true
valid_octet b h true k e f = h
valid_octet b h false true e f = h
valid_octet b h false false e f =
    ap (λ x. x && not (b == quote) && not (b == backslash)) h ∙ ap (λ x. not x && not (b == backslash)) e
    ∙ ap not f

all_valid : (text : List ℕ) → list_all is_value_byte text ≡ true → list_all (is_octet true) (map octet_for text) ≡ true
all_valid [] h = refl
all_valid (b ∷ text) h =
    let x = and_parts (is_value_byte b) (list_all is_value_byte text) h in
    ap (λ k. k && list_all (is_octet true) (map octet_for text))
    (valid_octet b x.0 (b == quote) (b == backslash) refl refl)
    ∙ all_valid text x.1

octet_means : (b : ℕ) (k : Bool) → octet_value (octet_if b k) ≡ b
octet_means b true = refl
octet_means b false = refl

all_mean : (text : List ℕ) → map octet_value (map octet_for text) ≡ text
all_mean [] = refl
all_mean (b ∷ text) = ap (λ o. o ∷ map octet_value (map octet_for text)) (octet_means b (b == quote || b == backslash))
    ∙ ap (λ t. b ∷ t) (all_mean text)

module _ (law : QuotedTextsParse) (kind : ParameterKind) (name text : List ℕ) (n : is_token name ≡ true)
    (bytes : list_all is_value_byte text ≡ true) (plain : is_extended kind text ≡ false) where
  abbrev ReadsBack : Type 0
  ReadsBack = (d : DirectiveParts) × IsDirective (parameter_text kind name text) d × Means name text d

  is_written : parameter_text kind name text ≡ name ++ equals ∷ value_text (is_quoted kind name) text
  is_written = ap (λ k. cond k (name ++ star ∷ equals ∷ extended_value text)
      (name ++ equals ∷ value_text (is_quoted kind name) text)) plain

  quoted : value_text (is_quoted kind name) text ≡ quoted_string text → ReadsBack
  quoted e =
      let parse = law (map octet_for text) (all_valid text bytes) in
      let inside = flat_map quoted_octet text in
      let valid : is_quoted_text false inside ≡ true = ap (is_quoted_text false) (written text) ∙ parse.0 in
      let means : octets_from false inside ≡ text = ap (octets_from false) (written text) ∙ parse.1 ∙ all_mean text in (
        record { name = name; argument = Some (QuotedText inside) },
        record {
          valid = ap (λ x. x && is_quoted_text false inside) n ∙ valid;
          written = is_written ∙ ap (λ t. name ++ equals ∷ t) e;
        },
        record { named = refl; meant = ap (λ t. Some t) means },
      )

  by_value : (k j : Bool) → is_quoted kind name ≡ k → is_token text ≡ j → ReadsBack
  by_value true j e f = quoted (ap (λ k. value_text k text) e)
  by_value false false e f = quoted (ap (λ k. value_text k text) e ∙ ap (λ k. cond k text (quoted_string text)) f)
  by_value false true e f =
      let shown = ap (λ k. value_text k text) e ∙ ap (λ k. cond k text (quoted_string text)) f in (
        record { name = name; argument = Some (TokenText text) },
        record {
          valid = ap (λ x. x && is_token text) n ∙ f;
          written = is_written ∙ ap (λ t. name ++ equals ∷ t) shown;
        },
        record { named = refl; meant = refl },
      )

pub parameters_read_back : QuotedTextsParse → ParametersReadBack
parameters_read_back law kind name text n bytes plain =
    by_value law kind name text n bytes plain (is_quoted kind name) (is_token text) refl refl
