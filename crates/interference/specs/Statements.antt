-- What is said of a run.
use Rattle.std.specs.Prelude.{◌≡◌, ◌⊎◌, ℕ, ◌+◌, ◌≤◌, Bool, true, false, List, [], ◌∷◌, ⊤}
use Rattle.interference.specs.Worlds.{Request, Storing, Origin, Asked, Dated, Received, Clients, World, is_authorized}
use Rattle.interference.{specs.Worlds.{matches, may_store}, specs.Worlds.Storing.{NotShared, Shared}}

-- the list has this element
abbrev pub Has : {X : Type 0} → List X → X → Type 0
Has [] x = ⊥
Has (y ∷ ys) x = (y ≡ x) ⊎ Has ys x

-- ---- premises on the origin server

-- It says what its answers depend on: if it lets an answer to one request be stored, then to each request that this
-- answer matches it would give the same content in the same version.
abbrev pub SaysWhatItDependsOn : Origin → Type 0
SaysWhatItDependsOn origin =
    (version : ℕ) (q r : Request) → may_store q (origin version q).head ≡ true
    → matches (origin version q).head q r ≡ true → (origin version q).content ≡ (origin version r).content

-- It would give the same answer: the same fields too, as Set-Cookie.
abbrev pub SaysWhatAllDependsOn : Origin → Type 0
SaysWhatAllDependsOn origin =
    (version : ℕ) (q r : Request) → may_store q (origin version q).head ≡ true
    → matches (origin version q).head q r ≡ true → origin version q ≡ origin version r

-- The tags of a target are strong: whoever asks, and in whatever version, no two contents have the same (RFC 9110,
-- section 8.8.1).
abbrev pub HasStrongTags : Origin → Type 0
HasStrongTags origin =
    (v w : ℕ) (q r : Request) → q.target ≡ r.target → (origin v q).head.etag ≡ (origin w r).head.etag
    → (origin v q).content ≡ (origin w r).content

-- ---- confidentiality by content

-- It is an answer, content and head, that the origin server gave or confirmed in that version: to this very request,
-- or to one whose answer may be stored, and matches this one.
abbrev pub IsFor : Origin → Dated → Request → Type 0
IsFor origin given r =
    (q : Request) × (given.answer ≡ origin given.version q)
    × ((q ≡ r) ⊎ ((may_store q given.answer.head ≡ true) × (matches given.answer.head q r ≡ true)))

-- It is of the version in which the request was sent, or a later one; or it was fresh when that was sent.
abbrev pub IsRecent : Asked → Dated → Type 0
IsRecent asked given =
    (asked.version ≤ given.version) ⊎ (asked.time ≤ given.date + given.answer.head.lifetime)

-- What a client has received is, byte for byte, what the origin server would have answered to this very request in the
-- version in which the answer was given or confirmed.
abbrev pub IsOwn : Origin → World → Received → Type 0
IsOwn origin world received =
    (received.given.version ≤ world.version) × IsRecent received.asked received.given
    × (received.given.answer.content ≡ (origin received.given.version received.asked.request).content)

-- a client has received a content that isn't that of the answer to its own request
pub record GetsAnothers (origin : Origin) (world : World) : Type 0 where
  pub received : Received
  pub has : Has world.received received
  pub differs : received.given.answer.content ≡ (origin received.given.version received.asked.request).content → ⊥

-- ---- two runs

-- Two requests differ at most in the values of secret fields; and both have Authorization, or neither.
pub record Alike (secret : List ℕ → Bool) (q r : Request) : Type 0 where
  pub is_get : q.is_get ≡ r.is_get
  pub target : q.target ≡ r.target
  pub fields : (name : List ℕ) → secret name ≡ false → q.fields name ≡ r.fields name
  pub authorized : is_authorized q ≡ is_authorized r

-- no secret field is among these
abbrev pub NamesNone : (List ℕ → Bool) → List (List ℕ) → Type 0
NamesNone secret [] = ⊤
NamesNone secret (name ∷ vary) = (secret name ≡ false) × NamesNone secret vary

abbrev pub VariesByNone : (List ℕ → Bool) → Storing → Type 0
VariesByNone secret NotShared = ⊤
VariesByNone secret (Shared vary even_authorized) = NamesNone secret vary

-- no answer that may be stored varies by a secret field
abbrev pub NoVaryNamesASecret : (List ℕ → Bool) → Origin → Type 0
NoVaryNamesASecret secret origin =
    (version : ℕ) (q : Request) → may_store q (origin version q).head ≡ true
    → VariesByNone secret (origin version q).head.storing

-- Some clients watch, all together. They ask the same, if they have been told the same; the others' requests are alike,
-- whatever these have been told.
pub record DifferInSecrets (watches : ℕ → Bool) (secret : List ℕ → Bool) (clients others : Clients) : Type 0 where
  pub watching : (client number : ℕ) (told : List Dated) → watches client ≡ true
      → clients client number told ≡ others client number told
  pub other : (client number : ℕ) (told told' : List Dated) → watches client ≡ false
      → Alike secret (clients client number told) (others client number told')

-- Two origin servers give each answer to a request of those who watch alike. Asked two requests that are alike, they
-- give the same answer, or two that may not be stored.
pub record DifferInPrivate (watches : ℕ → Bool) (secret : List ℕ → Bool) (clients : Clients) (origin other : Origin)
    : Type 0 where
  pub watching : (version client number : ℕ) (told : List Dated) → watches client ≡ true
      → origin version (clients client number told) ≡ other version (clients client number told)
  pub alike : (version : ℕ) (q r : Request) → Alike secret q r
      → (origin version q ≡ other version r)
      ⊎ ((may_store q (origin version q).head ≡ false) × (may_store r (other version r).head ≡ false))
