use Rattle.std.proofs.Common.{◌+◌, ◌++◌, ◌∷◌, length, suc}
use Rattle.chain.proofs.HistoryLemmas.{found, later_clients, later_origin, own-answer, own-since}
use Rattle.chain.proofs.sharing.clients_of_a_store_get_their_own_answers.Goals as goal

pub returns-clause-own : goal.returns-clause-own
returns-clause-own c policy limits target_of origin clients calls target request stored shared takes says strong s =
    let f = found policy limits target_of clients calls target request stored s
    (c.lookups_serve_what_calls_justify.ensures policy limits calls s.contents s.ran target s.most request s.now
    s.lookup
    s.answer s.number s.age s.serves) in
    own-answer policy shared target_of origin clients 0 calls takes
    (λ events received has. c.clients_get_their_own_answers.ensures.content origin clients events received says strong
    has)
    target stored request f.justified
    (c.what_is_stored_may_be_stored.ensures policy limits calls s.contents s.ran target stored f.under) f.fits s.method
    s.asked

pub returns-clause-since : goal.returns-clause-since
returns-clause-since c policy limits target_of origin clients later call earlier target request stored shared takes says
    strong removes s =
    let calls = later ++ call ∷ earlier in
    let f = found policy limits target_of clients calls target request stored s
    (c.lookups_serve_what_calls_justify.ensures policy limits calls s.contents s.ran target s.most request s.now
    s.lookup
    s.answer s.number s.age s.serves) in
    own-since policy shared target_of origin clients later call earlier takes
    (λ events received has. c.clients_get_their_own_answers.ensures.content (later_origin origin earlier)
    (later_clients clients earlier) events received (λ version. says (version + suc (length earlier)))
    (λ v w. strong (v + suc (length earlier)) (w + suc (length earlier))) has) target stored request
    (c.nothing_older_than_a_removal_is_stored.ensures policy limits later call earlier s.contents s.ran target removes
    stored f.under)
    (c.what_is_stored_may_be_stored.ensures policy limits calls s.contents s.ran target stored f.under) f.fits s.method
    s.asked
