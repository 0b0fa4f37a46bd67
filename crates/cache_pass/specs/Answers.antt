-- What a request gets after the origin has answered it (RFC 9111, sections 4.3.3, 4.3.4 and 4.4; RFC 5861, section 4).
use Rattle.http_header.specs.{FieldValue.FieldValue, HeaderMap.Entries}
use Rattle.cache_rules.specs.{declared.freshening.Exchange.Exchange, Freshening.renewing_fields, Selection.IsSomewhere}
use Rattle.cache_rules.specs.{Conditions.{IsForCache, IsStoredAnswer}, Identifying.IsIdentified}
use Rattle.{cache_policy.specs.Requests.Request, headers.specs.LineMap.{LineMap, lines_at}}
use Rattle.cache_store.specs.declared.freshening.Refreshed.TheVariants.{Absent, Unchanged}
use Rattle.cache_store.specs.{Changes.{IsLetGo, IsRefreshed, IsRestored}, Numbers.numbered, Updates.IsOneTooSmallFor}
use Rattle.{cache_store.specs.Contents.{responses_at, without}, std.specs.declared.alloc.AllocError.AllocError}
use Rattle.std.specs.Prelude.{◌≡◌, ◌⊎◌, Err, IsSomeAnd, List, Ok, Result, true, ℕ}
use Rattle.cache_pass.specs.{declared.replying.Reply.Reply, Effects.{Kept, Settings}, Replies.IsReplyTo}
use Rattle.cache_pass.specs.declared.revalidating.Next.{Next, TheVariants.{Ask, Once, PassOn, Reply as Replies}}

module _ (settings : Settings) (key : List ℕ) (request : Request) (update : LineMap) (exchange : Exchange)
    (old new : Kept) where
  -- the reply shows the response that the 304 updated, which stays stored
  pub record IsShownAfter (reply : Reply) : Type 0 where
    pub restored : IsRestored settings.policy key request update exchange old.contents new.contents reply.number
    pub evaluated : IsForCache request
    pub replies : IsSomeAnd (numbered reply.number (responses_at key new.contents))
        (λ stored. IsReplyTo request exchange.received stored reply)

  -- the 304 updates none of the stored responses, or the map of one has no room for its fields
  abbrev pub IsNotUpdating : Type 0
  IsNotUpdating =
      IsRefreshed settings.policy key request update exchange old.contents new.contents Absent
      ⊎ IsRefreshed settings.policy key request update exchange old.contents new.contents Unchanged
      ⊎ ((map : Entries FieldValue) × (lines_at map ≡ update)
      × IsOneTooSmallFor (responses_at key old.contents) (renewing_fields exchange.received map))

  -- nothing is stored any more: memory ran out for what is updated, or it has more bytes than there is room for
  abbrev pub IsLost : Type 0
  IsLost =
      IsSomewhere (IsIdentified request update (responses_at key old.contents))
      × (new.contents ≡ without key old.contents)

  -- What a 304 to a request that validates comes to. The origin is asked again if that updates nothing, what it updates
  -- is lost, or the request has a condition that applies to an origin server alone. Memory runs out only for what is
  -- updated.
  abbrev pub IsRevalidated : Result Next AllocError → Type 0
  IsRevalidated (Ok (Replies reply)) = IsShownAfter reply
  IsRevalidated (Ok (Once fresh answer)) =
      IsLetGo settings.policy key request update exchange old.contents new.contents fresh
      × IsStoredAnswer exchange.received request fresh true answer
  IsRevalidated (Ok Ask) = IsNotUpdating ⊎ (IsLost ⊎ (¬ (IsForCache request)))
  IsRevalidated (Ok (PassOn kept)) = ⊥
  IsRevalidated (Err error) = IsSomewhere (IsIdentified request update (responses_at key old.contents))
