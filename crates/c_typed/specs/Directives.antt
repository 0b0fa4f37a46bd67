-- Directives of `cache-control` with arguments, as C sees them.
use Rattle.std.specs.Prelude.{◌≡◌, ℕ, true, List, [], ◌∷◌, ◌++◌, flat_map, is_some, Option, None, unwrap_or}
use Rattle.std.specs.{Prelude.if◌then◌else◌, Global.Vec, Option.{option_and_then, option_map_or}}
use Rattle.{headers.specs.Lines.Line, rfc_fields.specs.Directives.{DirectiveParts, directive_in, is_named}}
use Rattle.rfc_fields.specs.{Members.field_members, Scan.{Member, Member.{Whole, Malformed}}, Values.ValueParts}
use Rattle.{rfc_fields.specs.Values.octets_of, cache_fields.specs.Directives.directed}
use Rattle.{cache_fields.specs.declared.directives.Directives.Directives, c_decisions.specs.Flags.flag_of}
use Rattle.c_typed.specs.declared.directives.StaleDirectives.{StaleDirectives}

abbrev pub stale_shown : Directives → StaleDirectives
stale_shown directives =
    record {
      while_revalidate = unwrap_or directives.stale_while_revalidate 0;
      if_error = unwrap_or directives.stale_if_error 0;
      has_while_revalidate = flag_of (is_some directives.stale_while_revalidate);
      has_if_error = flag_of (is_some directives.stale_if_error);
    }

-- what lines of `cache-control` direct for a cache (RFC 5861)
abbrev pub ShowsStale : List Line → StaleDirectives → Type 0
ShowsStale lines shown = shown ≡ stale_shown (directed (λ name. lines))

-- the argument of a directive, if it has this name
abbrev pub argument_if : List ℕ → DirectiveParts → Option ValueParts
argument_if name directive = if is_named name directive then directive.argument else None

abbrev pub argument_of : List ℕ → Member → Option ValueParts
argument_of name (Whole text) = option_and_then (argument_if name) (directive_in text)
argument_of name Malformed = None

-- what that argument means, and a byte 10
abbrev pub argument_line : List ℕ → Member → List ℕ
argument_line name member = option_map_or (λ value. octets_of value ++ 10 ∷ []) (argument_of name member) []

abbrev pub arguments_text : List ℕ → List Line → List ℕ
arguments_text name lines = flat_map (argument_line name) (field_members true lines)

abbrev pub ShowsArguments : List ℕ → List Line → Vec ℕ → Type 0
ShowsArguments name lines text = text.items ≡ arguments_text name lines
