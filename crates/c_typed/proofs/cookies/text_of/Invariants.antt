use Rattle.{std.proofs.Common.{◌≡◌, ◌++◌}, headers_items.specs.Pairs.pairs_left, c_typed.specs.Cookies.cookies_text}
use Rattle.c_typed.proofs.cookies.text_of.Given as goal

abbrev pub invariant-loop-name : goal.invariant-loop-name
invariant-loop-name l =
    cookies_text (pairs_left l.initial.name-iterator) ≡ l.text.items ++ cookies_text (pairs_left l.name-iterator)
