-- A shared store before an origin server that has a page for all, and one for each client.
use Rattle.std.proofs.Common.{◌≡◌, ℕ, List, length, ◌==◌, Bool, inl, inr, true, false, [], ◌∷◌, ap, arith, refl, sym}
use Rattle.std.{proofs.Common.◌∙◌, specs.Prelude.{Some, codes, unwrap_or}}
use Rattle.cache_policy.specs.{Policies.plain, declared.Kind.TheVariants.Shared}
use Rattle.cache_rules.specs.{Stored.fields_of_stored, declared.storing.Reception.TheVariants.Complete}
use Rattle.cache_store.specs.{History.Call.Arrived, declared.lookup.Lookup.TheVariants.Serve}
use Rattle.interference.specs.Worlds.{Answer, Clients, Origin, Request, Storing.NotShared, authorization, may_store}
use Rattle.interference.{specs.Statements.{HasStrongTags, SaysWhatItDependsOn}, proofs.Matching.matches-target}
use Rattle.chain.specs.{Caches.{asked, key_of}, Instances.IsSharing, Sharing.{sent, storing_of, tag_of}}
use Rattle.chain.proofs.InstanceLemmas.{age_line, caching, contents, encoded, found, inserted, is_to_store, next}
use Rattle.chain.proofs.InstanceLemmas.{stored, stored_as}

-- the page for all, or one with what its client's Authorization says, which isn't shared
abbrev page : Bool → Request → Answer
page true request = record {
  head = record {
    etag = tag_of (fields_of_stored stored);
    storing = storing_of (plain Shared) (fields_of_stored stored);
    lifetime = 0;
    others = [];
  };
  content = stored.content;
}
page false request = record {
  head = record {
    etag = unwrap_or (request.fields authorization) [];
    storing = NotShared;
    lifetime = 0;
    others = [];
  };
  content = unwrap_or (request.fields authorization) [];
}

abbrev origin : Origin
origin version request = page (request.target == 0) request

abbrev clients : Clients
clients client number told = sent 0 (asked next)

by_page : (for_all : Bool) (q r : Request) → may_store q (page for_all q).head ≡ true
    → (page for_all q).content ≡ (page for_all r).content
by_page true q r may = refl
by_page false q r may = absurd (grind (arith, may))

says : SaysWhatItDependsOn origin
says version q r may match = by_page (q.target == 0) q r may
    ∙ ap (λ (target : ℕ). (page (target == 0) r).content) (matches-target (origin version q).head q r match)

by_tag : (for_all : Bool) (q r : Request) → (page for_all q).head.etag ≡ (page for_all r).head.etag
    → (page for_all q).content ≡ (page for_all r).content
by_tag true q r same = refl
by_tag false q r same = same

strong : HasStrongTags origin
strong v w q r target same =
    by_tag (q.target == 0) q r (same ∙ sym (ap (λ (target : ℕ). (page (target == 0) r).head.etag) target))
    ∙ ap (λ (target : ℕ). (page (target == 0) r).content) target

-- a request for the other page
abbrev with_credentials : List ℕ → Request
with_credentials text = record { is_get = true; target = 1; fields = λ name. Some text }

pub sharing : IsSharing
sharing = record {
  policy = plain Shared;
  limits = caching.limits;
  target_of = λ target. 0;
  origin = origin;
  clients = clients;
  calls = Arrived (key_of (codes "/") next) stored Complete ∷ [];
  target = key_of (codes "/") next;
  request = asked next;
  stored = stored;
  kind = refl;
  takes = (
    λ get. record {
      asked = (0, λ told. refl);
      is = record { asks = refl; content = refl; storing = refl; tag = refl };
    },
    tt,
  );
  says = says;
  strong = strong;
  served = record {
    contents = contents;
    ran = ([], refl, inr (inl (stored, is_to_store, stored_as, inserted)));
    most = 0;
    now = 1;
    lookup = Serve 0 (encoded (codes "age") age_line);
    answer = found;
    number = 0;
    age = (codes "age", age_line ∷ []);
    serves = (refl, refl);
    at = refl;
    method = refl;
    asked = (0, λ told. refl);
  };
  first = with_credentials [];
  second = with_credentials (97 ∷ []);
  same = refl;
  differ = λ e. absurd (omega (arith, ap length e));
}
