use Rattle.std.proofs.Common.{◌≡◌, ◌++◌, take}
use Rattle.headers_values.proofs.set_cookie.SetCookieHeader.encode.Given as goal

abbrev pub invariant-loop-line : goal.invariant-loop-line
invariant-loop-line l = l.values.items ≡ l.fn.values.items ++ take l.line-index l.line-items
