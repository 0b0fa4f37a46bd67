-- The target of a request (RFC 9112, section 3.2).
use Rattle.std.specs.Prelude.{ℕ, ◌==◌, Bool, false, ◌||◌, ◌&&◌, not, nat_le, List, [], ◌∷◌, Option, Some, None}
use Rattle.std.{specs.Prelude.{bytes_eq, codes, drop, if◌then◌else◌, option_map, take}, specs.List.list_all}
use Rattle.gateway_messages.specs.Targets.{authority_len, scheme_len}
use Rattle.gateway_exchange.specs.declared.target.TargetParts.{TargetParts}

-- the authority of a target in absolute-form, and what follows it
pub record Parts : Type 0 where
  pub authority : Option (List ℕ)
  pub path : List ℕ

abbrev pub parts_of : TargetParts → Parts
parts_of target = record { authority = option_map (λ text. text.now) target.authority; path = target.path.now }

abbrev pub target_parts : Option TargetParts → Option Parts
target_parts target = option_map parts_of target

-- a byte that a target may have: visible ASCII, but for the number sign, since no target has a fragment (RFC 3986,
-- section 4.3)
abbrev pub is_target_byte : ℕ → Bool
is_target_byte byte = nat_le 33 byte && (nat_le byte 126 && not (byte == 35))

abbrev pub absolute_parts : List ℕ → Parts
absolute_parts text =
    record { authority = Some (take (authority_len text) text); path = drop (authority_len text) text }

abbrev pub begins_with_slash : List ℕ → Bool
begins_with_slash [] = false
begins_with_slash (byte ∷ bytes) = byte == 47

-- a target in origin-form, or the asterisk of OPTIONS
abbrev pub relative_parts : Bool → List ℕ → Option Parts
relative_parts is_options target =
    if begins_with_slash target || (is_options && bytes_eq target (codes "*"))
    then Some (record { authority = None; path = target }) else None

-- the parts of a target, if it is in one of the three forms
abbrev pub target_of : Bool → List ℕ → Option Parts
target_of is_options target =
    if not (list_all is_target_byte target) then None
    else (if scheme_len target == 0 then relative_parts is_options target
    else Some (absolute_parts (drop (scheme_len target) target)))

-- What is sent to the origin server (sections 3.2.1 and 3.2.4): an empty path is sent as a slash, or for OPTIONS as an
-- asterisk.
abbrev pub origin_form : Bool → List ℕ → List ℕ
origin_form is_options [] = if is_options then codes "*" else codes "/"
origin_form is_options (byte ∷ bytes) = if byte == 63 then 47 ∷ byte ∷ bytes else byte ∷ bytes
