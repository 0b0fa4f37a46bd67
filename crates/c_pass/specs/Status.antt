-- What Cache-Status says of a pass (RFC 9211, section 2).
use Rattle.std.specs.Prelude.{◌≡◌, ◌≢◌, ◌⊎◌, ℕ, ◌-◌, ◌==◌, ◌++◌, ◌||◌, ◌&&◌, Bool, true, false, List, [], ◌∷◌, flat_map}
use Rattle.std.specs.Prelude.{bytes_eq, codes, decimal, min, nat_le, Option, Some, None, Result, Ok, Err, if◌then◌else◌}
use Rattle.std.specs.{Global.Vec, List.{list_all, list_any}, Prelude.{option_map, unwrap_or}}
use Rattle.cache_policy.specs.{Decisions.IsFresh, Policies.Policy, Requests.Request}
use Rattle.cache_policy.specs.declared.decision.Freshness.{Freshness}
use Rattle.cache_rules.specs.{Selection.IsChosen, Selection.IsChoice, declared.stored.StoredResponse.StoredResponse}
use Rattle.{cache_store.specs.Lookups.{IsFreshFor, freshness_of}, cache_pass.specs.Effects.{settings_of, stored_at}}
use Rattle.cache_pass.specs.{Passes.{key_of, request_of_pass}, declared.{cache.Cache.Cache, pass.Pass.Pass}}
use Rattle.cache_pass.specs.declared.{pass.Phase.{Phase, TheVariants.Passing}, replying.First.First}
use Rattle.decide_preconditions.specs.Preconditions.{IsGetOrHead}
use Rattle.c_parts.specs.declared.status.Failure.{Failure, TheVariants.{Memory, Refused}}
use Rattle.c_pass.specs.declared.{held.Stepped.Stepped, status.{Course.Course, ForwardReason.ForwardReason}}
use Rattle.c_pass.specs.declared.status.Standing.{Standing}
use Rattle.cache_pass.specs.declared.replying.First.TheVariants as Gets
use Rattle.c_pass.specs.declared.status.Course.TheVariants as Goes
use Rattle.c_pass.specs.declared.status.ForwardReason.TheVariants as Because

-- ---- what a pass comes to

-- The response that is selected for the request has this lifetime, stated or guessed, and this age now; or none is
-- selected.
module _ (policy : Policy) (guess : ℕ) (request : Request) (now : ℕ) (stored : List StoredResponse) where
  abbrev pub IsSelection : Option Freshness → Type 0
  IsSelection None = IsChoice request stored None
  IsSelection (Some by) = (place : ℕ) × (chosen : IsChosen request stored place) × (lifetime : ℕ)
      × IsFreshFor policy guess chosen.response lifetime × (by ≡ freshness_of lifetime chosen.response now)

-- a response to GET is stored
abbrev pub has_get : List StoredResponse → Bool
has_get stored = list_any (λ it. bytes_eq it.method (codes "GET")) stored

-- A response to this method is stored: one to GET answers HEAD, too, and only those to the two are stored (RFC 9110,
-- sections 9.3.1 and 9.3.2).
abbrev pub has_for : List ℕ → List StoredResponse → Bool
has_for method stored = bytes_eq method (codes "HEAD") || has_get stored

-- Why a request with this method goes forward, by what is stored under its target, and by what is selected of that
-- (section 2.2). What is stored answers GET and HEAD alone.
abbrev pub IsReason : List ℕ → List StoredResponse → Option Freshness → ForwardReason → Type 0
IsReason method stored selected Because.Method = ¬ (IsGetOrHead method)
IsReason method stored selected Because.Target = IsGetOrHead method × (selected ≡ None) × (stored ≡ [])
IsReason method stored selected Because.Vary =
    IsGetOrHead method × (selected ≡ None) × (stored ≢ []) × (has_for method stored ≡ true)
IsReason method stored selected Because.Miss =
    IsGetOrHead method × (selected ≡ None) × (stored ≢ []) × (has_for method stored ≡ false)
IsReason method stored selected Because.Request =
    IsGetOrHead method × (by : Freshness) × (selected ≡ Some by) × IsFresh by
IsReason method stored selected Because.Stale =
    IsGetOrHead method × (by : Freshness) × (selected ≡ Some by) × ¬ (IsFresh by)

-- a stored response answers
abbrev pub is_reply : First → Bool
is_reply (Gets.Reply reply) = true
is_reply (Gets.ReplyAndValidate reply) = true
is_reply first = false

-- What becomes of the request. What waited for another request went forward, if a stored response answers it then
-- (section 2.6).
abbrev pub course_of : First → ForwardReason → Option Course → Course
course_of (Gets.Reply reply) reason earlier = unwrap_or earlier Goes.Hit
course_of (Gets.ReplyAndValidate reply) reason earlier = unwrap_or earlier Goes.Hit
course_of Gets.Ask reason earlier = Goes.Forward reason
course_of (Gets.Validate fields) reason earlier = Goes.Forward reason
course_of Gets.Unavailable reason earlier = Goes.Unavailable

-- What a pass comes to by its first step. If it waited for another request, this was to become of it when it began.
pub record IsStanding (guess now : ℕ) (cache : Cache) (pass : Pass) (first : First) (earlier : Option Course)
    (standing : Standing) : Type 0 where
  pub selected : Option Freshness
  pub is_selected : IsSelection (settings_of cache).policy guess (request_of_pass pass) now
      (stored_at (key_of pass) cache) selected
  pub reason : ForwardReason
  pub is_reason : IsReason (request_of_pass pass).method (stored_at (key_of pass) cache) selected reason
  pub course : standing.course ≡ course_of first reason earlier
  pub freshness : standing.freshness ≡ (if is_reply first then selected else None)
  pub came : standing.came ≡ None
  pub collapsed : standing.collapsed ≡ option_map (λ course. is_reply first) earlier

-- the same, once the origin responded with this status
abbrev pub with_status : ℕ → Standing → Standing
with_status status standing = record standing { came = Some status }

-- ---- how it is said

abbrev pub reason_name : ForwardReason → List ℕ
reason_name Because.Method = codes "method"
reason_name Because.Target = codes "uri-miss"
reason_name Because.Vary = codes "vary-miss"
reason_name Because.Miss = codes "miss"
reason_name Because.Request = codes "request"
reason_name Because.Stale = codes "stale"

-- the request wasn't forwarded, or why it was (sections 2.1 and 2.2)
abbrev pub course_text : Course → List ℕ
course_text Goes.Hit = codes "; hit"
course_text (Goes.Forward reason) = codes "; fwd=" ++ reason_name reason
course_text Goes.Unavailable = []

-- what the origin responded with (section 2.3)
abbrev pub came_text : Option ℕ → List ℕ
came_text (Some status) = codes "; fwd-status=" ++ decimal status
came_text None = []

-- its response is to be stored (section 2.5)
abbrev pub stored_text : Phase → List ℕ
stored_text (Passing asked status response) = codes "; stored"
stored_text phase = []

-- a number of seconds, as far as a number goes (RFC 8941, section 3.3.1)
abbrev pub seconds_text : ℕ → List ℕ
seconds_text seconds = decimal (min seconds 999999999999999)

-- for how many more seconds the response is fresh, or since how many it is stale (section 2.4)
abbrev pub fresh_text : Freshness → List ℕ
fresh_text by =
    if nat_le by.age by.lifetime then codes "; ttl=" ++ seconds_text (by.lifetime - by.age)
    else codes "; ttl=-" ++ seconds_text (by.age - by.lifetime)

abbrev pub ttl_text : Option Freshness → List ℕ
ttl_text (Some by) = fresh_text by
ttl_text None = []

-- what another request brought answers it, or it waited for that in vain (section 2.6)
abbrev pub collapsed_text : Option Bool → List ℕ
collapsed_text (Some true) = codes "; collapsed"
collapsed_text (Some false) = codes "; collapsed=?0"
collapsed_text None = []

abbrev pub parameters : Standing → Phase → List ℕ
parameters standing phase =
    course_text standing.course ++ came_text standing.came ++ stored_text phase ++ ttl_text standing.freshness
    ++ collapsed_text standing.collapsed

-- a space or visible ASCII
abbrev pub is_shown : ℕ → Bool
is_shown byte = nat_le 32 byte && nat_le byte 126

abbrev pub escaped : ℕ → List ℕ
escaped byte = if byte == 34 || byte == 92 then 92 ∷ byte ∷ [] else byte ∷ []

-- a string (RFC 8941, section 3.3.3)
abbrev pub quoted : List ℕ → List ℕ
quoted name = 34 ∷ (flat_map escaped name ++ 34 ∷ [])

-- The field line says what the pass comes to, by a cache of this name: a member of Cache-Status, of which `key` and
-- `detail` are never said. `Refused` if no string has the name.
abbrev pub IsStatusLine : List ℕ → Stepped → Result (Vec ℕ) Failure → Type 0
IsStatusLine name stepped (Ok text) = (list_all is_shown name ≡ true)
    × (text.items ≡ codes "cache-status: " ++ quoted name ++ parameters stepped.standing stepped.pass.phase ++ 10 ∷ [])
IsStatusLine name stepped (Err failure) =
    (failure ≡ Memory) ⊎ ((failure ≡ Refused) × (list_all is_shown name ≡ false))
