-- What a pass is of, and how far it comes.
use Rattle.cache_pass.specs.declared.pass.{Asked.Asked, Pass.Pass, Phase.{Phase, TheVariants.{Asking, Ended, Passing}}}
use Rattle.cache_pass.specs.declared.{cache.Cache.Cache, replying.First.First, revalidating.Next.Next}
use Rattle.std.specs.declared.alloc.AllocError.{AllocError}
use Rattle.std.specs.Prelude.{⊤, ◌≡◌, false, List, None, Ok, Option, Result, Some, string_bytes, true, ℕ}
use Rattle.{cache_policy.specs.Requests.Request, http_header.specs.{FieldValue.FieldValue, HeaderMap.Entries}}
use Rattle.{cache_rules.specs.declared.stored.StoredResponse.StoredResponse, headers.specs.LineMap.lines_at}
use Rattle.cache_pass.specs.declared.replying.First.TheVariants as first
use Rattle.cache_pass.specs.declared.revalidating.Next.TheVariants as next

-- the request
abbrev pub request_of_pass : Pass → Request
request_of_pass pass = record { method = pass.method; fields = lines_at pass.request }

-- the URI of its target
abbrev pub key_of : Pass → List ℕ
key_of pass = string_bytes pass.key

-- the pass is for the same request as before
pub record IsSameRequest (old new : Pass) : Type 0 where
  pub key : new.key ≡ old.key
  pub method : new.method ≡ old.method
  pub request : new.request ≡ old.request

-- neither the pass nor the cache is changed
pub record IsUnchanged (old : Pass) (before : Cache) (new : Pass) (after : Cache) : Type 0 where
  pub pass : new ≡ old
  pub cache : after ≡ before

-- when the origin was asked and how, if it is asked now
abbrev pub asked_of : Phase → Option Asked
asked_of (Asking asked) = Some asked
asked_of other = None

-- no response is forwarded that is to be stored
abbrev pub IsNotPassing : Phase → Type 0
IsNotPassing (Passing asked status response) = ⊥
IsNotPassing other = ⊤

-- how far the pass is after its first step, at this time and when the clock shows this
abbrev pub phase_first : Result First AllocError → ℕ → ℕ → Phase
phase_first (Ok first.Ask) now clock = Asking (record { requested = now; clock = clock; validates = false })
phase_first (Ok (first.Validate fields)) now clock =
    Asking (record { requested = now; clock = clock; validates = true })
phase_first other now clock = Ended

-- how far it is after the origin has answered with this status and these fields
abbrev pub phase_after : Result Next AllocError → Asked → ℕ → Entries FieldValue → ℕ → ℕ → Phase
phase_after (Ok next.Ask) asked status response now clock =
    Asking (record { requested = now; clock = clock; validates = false })
phase_after (Ok (next.PassOn true)) asked status response now clock = Passing asked status response
phase_after other asked status response now clock = Ended

-- the response to the pass's request as it came
pub record IsReceived (pass : Pass) (requested status : ℕ) (response : Entries FieldValue) (content : List ℕ) (now : ℕ)
    (came : StoredResponse) : Type 0 where
  pub method : came.method ≡ pass.method
  pub request : came.request ≡ pass.request
  pub status_came : came.status ≡ status
  pub response_came : came.response ≡ response
  pub content_came : came.content ≡ content
  pub requested_at : came.requested ≡ requested
  pub received_at : came.received ≡ now
