-- Where a comment ends, byte by byte.
use Rattle.std.specs.Prelude.{ℕ, zero, suc, Bool, true, false, ◌==◌, List, [], ◌∷◌, Option, Some, None, if◌then◌else◌}
use Rattle.{http_header.specs.Token.is_value_byte, rfc_fields.specs.Grammar.backslash}
use Rattle.rfc_fields.specs.{declared.comments.{Nesting.Nesting, Progress.Progress}, Comments.{open_paren, close_paren}}

-- what follows the parenthesis that closes the innermost comment
abbrev pub closing : ℕ → Progress
closing zero = Progress.Closed
closing (suc outer) = Progress.Within (record { outer = outer; is_escaped = false })

-- what follows a byte outside quoted-pairs
abbrev pub after_plain : ℕ → ℕ → Progress
after_plain outer b =
    if b == backslash then Progress.Within (record { outer = outer; is_escaped = true })
    else (if b == open_paren then Progress.Within (record { outer = suc outer; is_escaped = false })
    else (if b == close_paren then closing outer else Progress.Within (record { outer = outer; is_escaped = false })))

abbrev pub after_any : ℕ → Bool → ℕ → Progress
after_any outer true b = Progress.Within (record { outer = outer; is_escaped = false })
after_any outer false b = after_plain outer b

-- what follows a byte of a comment
abbrev pub after : Nesting → ℕ → Progress
after n b = if is_value_byte b then after_any n.outer n.is_escaped b else Progress.Never

-- what remains of the next bytes after this progress, where `within` says it for the open comments
abbrev pub lead : Progress → List ℕ → (Nesting → Option (List ℕ)) → Option (List ℕ)
lead (Progress.Within n) s within = within n
lead Progress.Closed s within = Some s
lead Progress.Never s within = None

-- what follows the outermost comment that is open, if it ends
unfoldable pub behind : Nesting → List ℕ → Option (List ℕ)
behind n [] = None
behind n (b ∷ s) = lead (after n b) s (λ m. behind m s)
