-- Which bytes can be separators.
use Rattle.std.{specs.Prelude.{◌≡◌, ◌≢◌, ℕ, true, false, refl}, proofs.Common.arith}
use Rattle.http_header.specs.Token.{is_visible_or_blank}
use Rattle.headers_syntax.specs.Text.{quote, is_blank}
use Rattle.headers_items.specs.Places.{comma, semicolon}

-- a byte of text other than a quote, a space or a tab
pub record IsSeparator (b : ℕ) : Type 0 where
  pub is_text : is_visible_or_blank b ≡ true
  pub no_quote : b ≢ quote
  pub no_blank : is_blank b ≡ false

pub comma_is_separator : IsSeparator comma
comma_is_separator = record { is_text = refl; no_quote = λ e. omega (arith, e); no_blank = refl }

pub semicolon_is_separator : IsSeparator semicolon
semicolon_is_separator = record { is_text = refl; no_quote = λ e. omega (arith, e); no_blank = refl }
