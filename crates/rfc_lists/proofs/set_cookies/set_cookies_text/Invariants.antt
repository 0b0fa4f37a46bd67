use Rattle.{std.{proofs.Common.{◌≡◌, ◌++◌}, specs.Prelude.flat_map}, headers_syntax.specs.Lines.lines_of}
use Rattle.rfc_lists.specs.SetCookies.{shown_cookie}
use Rattle.rfc_lists.proofs.set_cookies.set_cookies_text.Given as goal

abbrev pub invariant-loop-value : goal.invariant-loop-value
invariant-loop-value l = flat_map shown_cookie (lines_of l.initial.value-iterator)
    ≡ l.text.items ++ flat_map shown_cookie (lines_of l.value-iterator)
