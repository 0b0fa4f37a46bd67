-- What a shared store stores, selects, serves and freshens is what a cache of `interference` may.
use Rattle.cache_policy.specs.{Fields.IsPresent, Policies.{MayStoreUnder, Policy, tells}, Requests.Request}
use Rattle.cache_policy.specs.{Storing.IsShareable, Updating.{HasStrongTag, IsUpdated, tag_in}, Varying.Agree}
use Rattle.cache_policy.specs.{Varying.{SayTheSame, Suits}, declared.Kind.{Kind, TheVariants.Shared}}
use Rattle.cache_rules.specs.{Freshening.{IsFreshened, IsReusable}, Stored.{fields_of_stored, request_of_stored}}
use Rattle.cache_rules.specs.declared.{freshening.Exchange.Exchange, stored.StoredResponse.StoredResponse}
use Rattle.std.proofs.Common.{◌≡◌, ◌⊎◌, ℕ, true, List, [], ◌∷◌, ◌++◌, length, map, refl, ap, subst, ◌∙◌, arith, inl}
use Rattle.std.proofs.{Common.{inr, sym}, lemmas.Bool.{and_from, cases_Bool, eq-eqb}}
use Rattle.std.proofs.lemmas.List.Elements.{All-head, All-tail}
use Rattle.std.{proofs.lemmas.{List.Sums.list_all-from_AllPass, Slice.Eq.bytes_eq-Decides}, specs.List.list_all}
use Rattle.std.specs.Prelude.{All, Option, Some, bytes_eq, codes, unwrap_or}
use Rattle.{http_header.specs.Token.{is_token_byte, lowercase}, headers.specs.LineMap.LineMap}
use Rattle.{headers.specs.Lines.{Line, only_line}, rfc_fields.specs.Scan.{Member, Member.{Malformed, Whole}}}
use Rattle.chain.specs.Sharing.{IsOf, is_name, is_open, right, sent, storing_of, tag_of, text_of, updated, value_of}
use Rattle.{chain.specs.Sharing.varies, interference.specs.Events.{Event.{Begins, Freshens, Looks, Replies}, begins}}
use Rattle.interference.specs.Events.{happens, is_renewable, looks, message_at, nodes_freshened, nth, pass_at, replies}
use Rattle.interference.specs.{Events.{run_from, with_number, with_stored}, Worlds.{Asked, Clients, Head, Hop}}
use Rattle.interference.specs.Worlds.{Doing.{Completes, Gives, GivesStored}, Kind.Right, Message.{Coming, Going}}
use Rattle.interference.specs.Worlds.{Origin, Pass, Pass.{At, Ended}, Place, Reply.Whole as Full, Stored, World}
use Rattle.interference.specs.Worlds.{is_fresh, Storing.Shared as SharedFor, agree, matches, may_store, same_value}

-- ---- the fields of requests

same_said : (name : List ℕ) (lines others : List Line) → SayTheSame name lines others
    → value_of name lines ≡ value_of name others
same_said name lines others (inl same) = ap (value_of name) same
same_said name lines others (inr list) =
    grind (arith, list.0, list.1.present, list.1.also_present, list.1.same.0, list.1.same.1)

-- ---- Vary

module _ (q r : Request) where
  abbrev agreed : Member → Type 0
  agreed = Agree q.fields r.fields

  agree_in : (target : ℕ) (member : Member) → agreed member → (is_name member ≡ true)
      × (same_value ((sent target q).fields (lowercase (text_of member)))
      ((sent target r).fields (lowercase (text_of member))) ≡ true)
  agree_in target (Whole name) h =
      let same = same_said (lowercase name) _ _ h.2 in
      let token = list_all-from_AllPass is_token_byte name h.0.1 in
      (grind (arith, h.0.0, token, h.1, bytes_eq-Decides), grind (arith, same, bytes_eq-Decides))
  agree_in target Malformed h = absurd h

  all_agree : (target : ℕ) (ms : List Member) → All agreed ms → (list_all is_name ms ≡ true)
      × (agree (map (λ member. lowercase (text_of member)) ms) (sent target q) (sent target r) ≡ true)
  all_agree target [] all = (refl, refl)
  all_agree target (m ∷ ms) all =
      let first = agree_in target m (All-head agreed m ms all) in
      let others = all_agree target ms (All-tail agreed m ms all) in
      (and_from _ _ first.0 others.0, and_from _ _ first.1 others.1)

-- ---- what may be stored

module _ (policy : Policy) (shared : policy.kind ≡ Shared) (target status : ℕ) (response : LineMap) (head : Head)
    (same : head.storing ≡ storing_of policy response) where
  abbrev May : Request → Type 0
  May request = MayStoreUnder policy request status response

  shareable : (request : Request) → May request → IsShareable Shared request.fields (tells policy response)
  shareable request may =
      subst (λ (k : Kind). IsShareable k request.fields (tells policy response)) shared may.shareable

  declared : (request : Request) → May request → list_all is_name (varies response) ≡ true → head.storing
      ≡ SharedFor (map (λ member. lowercase (text_of member)) (varies response)) (is_open (tells policy response))
  declared request may names = same ∙ grind (arith, (shareable request may).0, may.response_lets, names)

  allowed : (request : Request) → request.method ≡ codes "GET" → May request
      → list_all is_name (varies response) ≡ true → may_store (sent target request) head ≡ true
  allowed request get may names = and_from _ _ ((bytes_eq-Decides request.method (codes "GET")).1 get)
      (rw (declared request may names) (grind (arith, (shareable request may).1)))

  pub may-be : (request : Request) → request.method ≡ codes "GET" → May request
      → (may_store (sent target request) head ≡ true) ⊎ ((other : Request) → ¬ (Suits request other response))
  may-be request get may = elim (cases_Bool (list_all is_name (varies response))) [
    | inl names ↦ inl (allowed request get may names)
    | inr unnamed ↦
        inr (λ other suits. let all = all_agree request other target _ suits.fields in cc (all.0, unnamed))
  ]

  module _ (first request : Request) (may : May first) (suits : Suits first request response) where
    pub matching : matches head (sent target first) (sent target request) ≡ true
    matching =
        let all = all_agree first request target _ suits.fields in
        and_from _ _ (eq-eqb target target refl) (rw (declared first may all.0) all.1)

    pub renewable : first.method ≡ codes "GET" → request.method ≡ codes "GET" → May request
        → is_renewable Right (sent target first) (sent target request) head ≡ true
    renewable get also too =
        let names = (all_agree first request target _ suits.fields).0 in
        and_from _ _ (allowed request also too names) (and_from _ _ (allowed first get may names) matching)

-- ---- strong tags

pub same_tag : (stored update : LineMap) → HasStrongTag update → IsUpdated stored update → tag_in stored ≡ tag_in update
same_tag stored update strong about =
    let has : IsPresent (codes "etag") update = grind (arith, strong) in grind (arith, strong, about.tag has)

-- ---- passes

pub nth-end : {X : Type 0} (default : X) (xs : List X) (x : X) → nth default (xs ++ x ∷ []) (length xs) ≡ x
nth-end default [] x = refl
nth-end default (y ∷ xs) x = grind (arith, nth-end default xs x)

-- ---- events

-- a cache serves what it stores
pub sends-stored : (origin : Origin) (clients : Clients) (world : World) (message cache which : ℕ) (passed : List Hop)
    (asked : Asked) (one : Stored) → message_at world message ≡ Going passed asked
    → with_number which (world.nodes cache).stored ≡ Some one → asked.request.is_get ≡ true
    → matches one.given.answer.head one.request asked.request ≡ true → is_fresh world.now one.given ≡ true
    → (run_from (right origin clients) (Begins message cache which ∷ Replies (length world.passes) true ∷ [])
    world).messages
    ≡ world.messages ++ Coming passed asked (Full one.given) ∷ []
sends-stored origin clients world message cache which passed asked one at has read suits fresh =
    let begun : begins Right world cache which (message_at world message)
    ≡ At (record { cache = cache; which = which; left = passed; asked = asked }) GivesStored
    = ap (begins Right world cache which) at ∙ rw (has, suits, fresh, read) refl in
    ap (λ (p : Pass). world.messages
    ++ replies Right (happens (right origin clients) world (Begins message cache which)) true p ∷ [])
    (nth-end Ended world.passes _ ∙ begun)
    ∙ rw has refl

-- what a 304 makes of a stored response
module _ (policy : Policy) (shared : policy.kind ≡ Shared) (request : Request) (update : LineMap) (exchange : Exchange)
    (old new : StoredResponse) (get : request.method ≡ codes "GET") (also : old.method ≡ codes "GET")
    (strong : HasStrongTag update) (about : IsUpdated (fields_of_stored old) update)
    (fresh : IsFreshened old update exchange new)
    (reusable : IsReusable policy (fields_of_stored old) request update new) (target version date : ℕ) (head : Head)
    (one : Stored) (of : IsOf policy target old one.request one.given)
    (says : head.storing ≡ storing_of policy (fields_of_stored new)) (tagged : head.etag ≡ tag_of update) where
  pub tag-same : tag_in (fields_of_stored old) ≡ tag_in update
  tag-same = same_tag (fields_of_stored old) update strong about

  pub of-new : IsOf policy target new one.request (updated version date head one)
  of-new =
      let new_tag : tag_in (fields_of_stored new) ≡ tag_in update
      = ap only_line (fresh.fields (codes "etag")) ∙ grind (arith, tag-same) in record {
        asks = rw (fresh.method, fresh.request) of.asks;
        content = of.content ∙ sym fresh.content;
        storing = says;
        tag = tagged ∙ ap (λ (o : Option Line). unwrap_or o []) (sym new_tag);
      }

  pub stored-anew : (origin : Origin) (clients : Clients) (world : World) (pass : ℕ) (place : Place)
      → pass_at world pass ≡ At place (Completes version date head) → place.asked.request ≡ sent target request
      → with_number place.which (world.nodes place.cache).stored ≡ Some one
      → (run_from (right origin clients) (Looks pass ∷ Freshens (length world.passes) place.which ∷ []) world).nodes
      place.cache ≡ with_stored one.request (updated version date head one) (world.nodes place.cache)
  stored-anew origin clients world pass place at asks has =
      let may : is_renewable Right one.request place.asked.request head ≡ true = rw (of-new.asks, asks)
      (renewable policy shared target new.status (fields_of_stored new) head says (request_of_stored new) request
      reusable.1.first reusable.1.suits (fresh.method ∙ also) get reusable.1.validating) in
      let same : bytes_eq one.given.answer.head.etag head.etag ≡ true =
      rw (of.tag, tag-same, tagged) ((bytes_eq-Decides (tag_of update) (tag_of update)).1 refl) in
      let looked : looks Right world (pass_at world pass) ≡ At place (Gives (updated version date head one))
      = ap (looks Right world) at
      ∙ rw (has, of.asks, asks, same, eq-eqb target target refl) refl in
      ap (λ (p : Pass). nodes_freshened Right place.which p world.nodes place.cache)
      (nth-end Ended world.passes _ ∙ looked) ∙ rw (eq-eqb place.cache place.cache refl, has, may) refl
