-- Responses that a connection sends.
use Rattle.std.specs.Prelude.{◌≡◌, ◌≢◌, ◌⊎◌, ℕ, ◌≤◌, Bool, true, false, ◌&&◌, List, [], ◌∷◌, codes, decimal}
use Rattle.std.specs.{Prelude.{if◌then◌else◌, nat_lt, Option, Some, None, ⊤}, List.list_all, Option.option_map_or}
use Rattle.http1.specs.{declared.framing.MethodKind.MethodKind, Conn.is_connect, Fields.{Header, values_named}}
use Rattle.{http1.specs.Head.is_header, decide_cors.specs.Policy.Policy, server_service.specs.Response.is_bare}

-- The status may answer a request of this method by a content of this length, whose fields state that length or leave
-- it to the connection. It is final, 205 has no content (RFC 9110, section 15.3.6), 204 and 304 state no length, and
-- CONNECT isn't answered by success (section 9.3.6).
pub record IsFinal (method : MethodKind) (status len : ℕ) (stated : Bool) : Type 0 where
  pub least : 200 ≤ status
  pub greatest : status ≤ 999
  pub other : status ≢ 205
  pub bodiless : (status ≡ 204) ⊎ (status ≡ 304) → (len ≡ 0) × (stated ≡ false)
  pub connect : (is_connect method && nat_lt status 300) ≡ false

-- The field lines are sent as they are. Each name is a token, and each value has no control byte but the tab, and no
-- white space at its ends (RFC 9110, section 5.5). They state this length once, if it is stated, and nothing else of
-- where the message ends.
pub record StatesLength (len : ℕ) (stated : Bool) (fields : List Header) : Type 0 where
  pub valid : list_all is_header fields ≡ true
  pub codings : values_named (codes "transfer-encoding") fields ≡ []
  pub lengths : values_named (codes "content-length") fields ≡ (if stated then decimal len ∷ [] else [])

-- No value of a policy for requests from other origins has white space at its ends. What is allowed is lists of tokens,
-- numbers, and origins as browsers send them.
pub record IsBarePolicy (policy : Policy) : Type 0 where
  pub origins : option_map_or (list_all is_bare) policy.origins true ≡ true
  pub methods : is_bare policy.methods ≡ true
  pub names : is_bare policy.names ≡ true
  pub exposed : is_bare policy.exposed ≡ true
  pub max_age : option_map_or is_bare policy.max_age true ≡ true

abbrev pub IsBareIfAny : Option Policy → Type 0
IsBareIfAny None = ⊤
IsBareIfAny (Some policy) = IsBarePolicy policy
