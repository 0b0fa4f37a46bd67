-- What calls of an iterator over header values say about its list of field lines.
use Rattle.std.{specs.Prelude.{◌≡◌, Bool, IsTrue, List, [], ◌++◌, map, Option, None}, specs.Bool.MatchBool}
use Rattle.std.specs.Iterator.{Yields, YieldsThen}
use Rattle.http_header.specs.FieldValue.{FieldValue}
use Rattle.headers_syntax.specs.Lines.{Line}

module _ {S A : Type 0} (shown : A → FieldValue) (steps : S → Option A → S → Type 0) where
  -- The calls led from state s to state t and yielded `items`, and then `None` if `ended`. P holds of each list of
  -- field lines that begins with these; if `ended`, of these alone.
  pub record OfLines (s t : S) (P : List Line → Type 0) : Type 0 where
    pub items : List A
    pub ended : Bool
    pub calls : MatchBool ended (YieldsThen steps s items None t) (Yields steps s items t)
    pub holds : (rest : List Line) → (IsTrue ended → rest ≡ []) → P (map (λ item. (shown item).bytes) items ++ rest)
