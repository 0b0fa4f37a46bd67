-- The answer of a service that was told what the host found.
use Rattle.std.proofs.Common.{◌≡◌, ◌∙◌, ℕ, Bool, List, Option, Some, None, ap, subst, length}
use Rattle.{std.specs.Prelude.{option_map, string_bytes}, http.specs.declared.request.Request.Request}
use Rattle.{http.specs.Request.head_of, http_uri.specs.Uri.uri_path, c_parts.specs.declared.keys.HashKeys.HashKeys}
use Rattle.server_files.specs.Path.{Names}
use Rattle.server_connection.specs.declared.connection.ServerConnection.{ServerConnection}
use Rattle.server_connection.specs.declared.{plan.ResponsePlan.ResponsePlan, machine.Phase.TheVariants.Asking}
use Rattle.server_service.specs.{Answer.{IsAnswer, IsSameSite}, declared.{settings.Site.Site, source.Source.Source}}
use Rattle.c_files.specs.{Entries.{entry_at, entry_in}, Paths.{negotiates_of, next_path}, Plans.{IsPlanned, Knows}}
use Rattle.c_files.specs.{Plans.{left_for, number_of}, declared.{entry.Facts.Facts, held.HeldFiles.HeldFiles}}
use Rattle.c_files.specs.declared.store.Found.{Found}

pub answer_told : (named : Option (List ℕ)) (found : List Facts) (now : ℕ) (is_last : Bool) (old told : HeldFiles)
    (request : Request (List ℕ)) (plan : ResponsePlan) (source : Option Source) → Knows named found now is_last old told
    → IsAnswer (λ time. time ≡ Some told.service.store.time) told.service.left told.service.site
    (λ path entry. entry ≡ entry_in told.service.store path) request plan source
    → IsAnswer (λ time. time ≡ Some now) (left_for is_last) old.service.site
    (λ path entry. entry ≡ entry_at old.service.store.keys now named found path) request plan source
answer_told named found now is_last old told request plan source knows answer =
    let Is : HashKeys → ℕ → Option (List ℕ) → List Facts → ℕ → Site → Type 0 = λ keys time paths entries left site.
    IsAnswer (λ told. told ≡ Some time) left site (λ path entry. entry ≡ entry_at keys time paths entries path) request
    plan source in
    let store = told.service.store in
    let paths = option_map string_bytes store.named in
    let left = left_for is_last in
    let site = old.service.site in
    subst (λ (keys : HashKeys). Is keys now named found left site) knows.keys
    (subst (λ (time : ℕ). Is store.keys time named found left site) knows.time
    (subst (λ (p : Option (List ℕ)). Is store.keys store.time p found left site) knows.named_is
    (subst (λ (l : List Facts). Is store.keys store.time paths l left site) knows.entries
    (subst (λ (n : ℕ). Is store.keys store.time paths store.entries.items n site) knows.left
    (subst (λ (s : Site). Is store.keys store.time paths store.entries.items told.service.left s) knows.site answer)))))

pub planned : (found : List Facts) (now : ℕ) (is_last : Bool) (connection : ServerConnection) (path : List ℕ)
    (old told new : HeldFiles) (plan : ResponsePlan) (number : ℕ) (named : Option (List ℕ))
    → connection.machine.phase ≡ Asking → path ≡ uri_path (head_of connection.machine.request).uri → Names path named
    → next_path (negotiates_of old) named found ≡ None → Knows named found now is_last old told
    → IsAnswer (λ time. time ≡ Some told.service.store.time) told.service.left told.service.site
    (λ path entry. entry ≡ entry_in told.service.store path) connection.machine.request plan new.service.source
    → IsSameSite told.service.site new.service.site → new.service.store ≡ told.service.store
    → number ≡ number_of new.service.source (length found) → IsPlanned found now is_last connection old new plan number
planned found now is_last connection path old told new plan number named asks at names whole knows answer same store
    is = record {
      asks = asks;
      named = named;
      names = subst (λ (p : List ℕ). Names p named) at names;
      whole = whole;
      answers =
          answer_told named found now is_last old told connection.machine.request plan new.service.source knows answer;
      keeps = record {
        site = subst (λ (s : Site). IsSameSite s new.service.site) knows.site same;
        keys = ap (λ (f : Found). f.keys) store ∙ knows.keys;
      };
      number_is = is;
    }
