use Rattle.std.proofs.{Common.{◌∙◌, ◌≡◌, subst, sym, true}, lemmas.{Option.same_Some, Slice.Eq.bytes_eq-Decides}}
use Rattle.{std.specs.Prelude.codes, cache_rules.specs.Selection.IsCandidate}
use Rattle.cache_rules.specs.Stored.{fields_of_stored, request_of_stored}
use Rattle.cache_rules.specs.declared.stored.StoredResponse.{StoredResponse}
use Rattle.cache_store.proofs.{HistoryLemmas.HasUnder-responses_at, NumberLemmas.Has-numbered}
use Rattle.{chain.proofs.SharingLemmas.{matching, sends-stored}, interference.specs.Worlds.matches}
use Rattle.chain.proofs.sharing.what_is_served_is_sent.Goals as goal

pub returns : goal.returns
returns c policy limits calls contents ran shared key most request now lookup answers number age serves stored named get
    origin clients world message cache which target passed asked one at asks has of fresh =
    let found = c.lookups_serve_what_calls_justify.ensures policy limits calls contents ran key most request now lookup
    answers number age serves in
    let same = matching policy shared target stored.status (fields_of_stored stored) one.given.answer.head of.storing
    (request_of_stored stored) request
    (c.what_is_stored_may_be_stored.ensures policy limits calls contents ran key stored
    (HasUnder-responses_at key contents stored (Has-numbered _ number stored named).0))
    (subst (λ (s : StoredResponse). IsCandidate request s) (same_Some found.response stored (sym found.at ∙ named))
    found.matches) in
    let suits : matches one.given.answer.head one.request asked.request ≡ true = rw (of.asks, asks) same in
    let read : asked.request.is_get ≡ true = rw asks ((bytes_eq-Decides request.method (codes "GET")).1 get) in
    sends-stored origin clients world message cache which passed asked one at has read suits fresh
