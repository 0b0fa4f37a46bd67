-- What a response that validates a stored one makes of it (RFC 9111, sections 3.2, 4.3.4 and 4.3.5).
use Rattle.std.specs.Prelude.{◌≡◌, ◌⊎◌, ℕ, List, [], ◌∷◌, ◌++◌, bytes_eq, codes, if◌then◌else◌}
use Rattle.{http_header.specs.{FieldValue.FieldValue, HeaderMap.Entries}, headers.specs.LineMap.{Field, LineMap}}
use Rattle.{headers.specs.{Lines.Line, Typed.HasLine}, cache_policy.specs.{Dating.date_lines, Freshening.freshened}}
use Rattle.cache_policy.specs.{Freshening.freshening_fields, Policies.{MayStoreUnder, Policy}, Requests.Request}
use Rattle.cache_policy.specs.{Updating.{IsUpdated, HasStrongTag}, declared.Kind.TheVariants.Shared}
use Rattle.cache_rules.specs.{Selection.IsCandidate, Storing.HasFairOptions, declared.freshening.Exchange.Exchange}
use Rattle.cache_rules.specs.declared.freshening.Freshened.{Freshened, TheVariants.{Unchanged, Stored, Once}}
use Rattle.cache_rules.specs.{declared.stored.StoredResponse.StoredResponse, Stored.fields_of_stored}
use Rattle.cache_rules.specs.Stored.{request_of_stored}

-- ---- how a stored response is updated

-- The fields of a stored response at the time when another one validates it: as old as that says. So a validating
-- response without Date was made when it came (RFC 9110, section 6.6.1), and one without Age wasn't aged on its way
-- (section 5.1).
abbrev pub aged_anew : ℕ → LineMap → LineMap
aged_anew received stored name =
    if bytes_eq (codes "age") name then [] else (if bytes_eq (codes "date") name then date_lines received else
    stored name)

-- the fields that make it so: Date is the time of receipt, and Age is removed
abbrev pub aging_fields : ℕ → List Field
aging_fields received = (codes "date", date_lines received) ∷ (codes "age", []) ∷ []

-- the fields that are set in a stored response that another one validates: those, and then what it takes over of the
-- other one's fields
abbrev pub renewing_fields : ℕ → Entries FieldValue → List Field
renewing_fields received update = aging_fields received ++ freshening_fields update

-- A stored response that another one validates: its request, its status and its content are as before, it is as old as
-- that exchange, and it has these field lines.
pub record IsRenewed (old : StoredResponse) (lines : LineMap) (exchange : Exchange) (new : StoredResponse)
    : Type 0 where
  pub method : new.method ≡ old.method
  pub request : new.request ≡ old.request
  pub status : new.status ≡ old.status
  pub content : new.content ≡ old.content
  pub requested : new.requested ≡ exchange.requested
  pub received : new.received ≡ exchange.received
  pub fields : (name : List ℕ) → fields_of_stored new name ≡ lines name

-- Its fields are those of the validating response, where section 3.2 lets them replace its own.
abbrev pub IsFreshened : StoredResponse → LineMap → Exchange → StoredResponse → Type 0
IsFreshened old update exchange new =
    IsRenewed old (freshened (aged_anew exchange.received (fields_of_stored old)) update) exchange new

-- the field lines of the new message, if it has some, are those that are stored
abbrev pub SaysAsBefore : List Line → List Line → Type 0
SaysAsBefore own other = HasLine other → own ≡ other

-- The validating response is about what other clients get, too. Without a strong entity tag it may be about another
-- representation than the stored one: so it leaves Vary as it is, which says for whom that is. In a shared cache it
-- sets no cookie.
pub record IsForOthers (policy : Policy) (stored update : LineMap) : Type 0 where
  pub vary : HasStrongTag update ⊎ SaysAsBefore (stored (codes "vary")) (update (codes "vary"))
  pub cookie : policy.kind ≡ Shared → ¬ (HasLine (update (codes "set-cookie")))

-- The response may be stored and reused, with its new fields: section 3 allows it for the request that it answered
-- first and for the one that validated it, it suits the latter, and it is known which fields of the validating response
-- are those of the connection.
pub record MayBeReused (policy : Policy) (request : Request) (update : LineMap) (new : StoredResponse) : Type 0 where
  pub first : MayStoreUnder policy (request_of_stored new) new.status (fields_of_stored new)
  pub validating : MayStoreUnder policy request new.status (fields_of_stored new)
  pub suits : IsCandidate request new
  pub fair : HasFairOptions policy.targets update

-- ... and by others than the client whose request validated the one with these fields
abbrev pub IsReusable : Policy → LineMap → Request → LineMap → StoredResponse → Type 0
IsReusable policy stored request update new =
    IsForOthers policy stored update × MayBeReused policy request update new

-- What becomes of a stored response: the validating one isn't about it; or it is updated, and stays stored if it may be
-- reused.
abbrev pub IsFreshenedAs : Policy → StoredResponse → Request → LineMap → Exchange → Freshened → Type 0
IsFreshenedAs policy old request update exchange (Unchanged new) =
    (¬ (IsUpdated (fields_of_stored old) update)) × (new ≡ old)
IsFreshenedAs policy old request update exchange (Stored new) =
    IsUpdated (fields_of_stored old) update × IsFreshened old update exchange new
    × IsReusable policy (fields_of_stored old) request update new
IsFreshenedAs policy old request update exchange (Once new) =
    IsUpdated (fields_of_stored old) update × IsFreshened old update exchange new
    × ¬ (IsReusable policy (fields_of_stored old) request update new)

-- ---- HEAD

-- A 200 to HEAD is about the stored response (section 4.3.5): a 304 with its fields would be, and the date of the last
-- modification and the length of the content, if it has them, are those that are stored.
pub record IsHeadOf (stored update : LineMap) : Type 0 where
  pub updated : IsUpdated stored update
  pub modified : SaysAsBefore (stored (codes "last-modified")) (update (codes "last-modified"))
  pub length : SaysAsBefore (stored (codes "content-length")) (update (codes "content-length"))
