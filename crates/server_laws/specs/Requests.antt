-- Requests that differ in their methods, or in a condition.
use Rattle.std.specs.Prelude.{◌≡◌, ℕ, List, [], codes, ◌≢◌, ◌∷◌}
use Rattle.{http.specs.{Request.head_of, declared.request.Request.Request}, headers.specs.LineMap.lines_at}
use Rattle.{headers.specs.Lines.Line, decide_preconditions.specs.Preconditions.IsGetOrHead}

-- one is a GET without Range, and the other a HEAD with the same target, version and fields
pub record IsHeadOf (get head : Request (List ℕ)) : Type 0 where
  pub is_get : (head_of get).method ≡ codes "GET"
  pub no_range : lines_at (head_of get).headers (codes "range") ≡ []
  pub is_head : (head_of head).method ≡ codes "HEAD"
  pub uri : (head_of head).uri ≡ (head_of get).uri
  pub version : (head_of head).version ≡ (head_of get).version
  pub headers : (head_of head).headers ≡ (head_of get).headers

-- Both are GET or HEAD, with the same target, version and fields, but for the field of this name: in the second it has
-- this field line alone.
pub record IsAgain (name : List ℕ) (line : Line) (first second : Request (List ℕ)) : Type 0 where
  pub read : IsGetOrHead (head_of first).method
  pub read_again : IsGetOrHead (head_of second).method
  pub uri : (head_of second).uri ≡ (head_of first).uri
  pub version : (head_of second).version ≡ (head_of first).version
  pub condition : lines_at (head_of second).headers name ≡ line ∷ []
  pub others : (other : List ℕ) → other ≢ name
      → lines_at (head_of second).headers other ≡ lines_at (head_of first).headers other
