use Rattle.std.{proofs.Common.{◌≡◌, ◌∙◌, ◌++◌, sym, List, [], inl, ap, codes}, specs.Prelude.{string_bytes, unwrap_or}}
use Rattle.{headers.specs.Lines.{Line, only_line}, chain.specs.Caches.key_of, decide_resource.specs.Requests.request_of}
use Rattle.chain.proofs.cache.answer_from_store.Goals as goal

pub returns-clause-ok : goal.returns-clause-ok
returns-clause-ok c =
    let request = request_of c.args.request.now in
    let target = c.args.target.now in
    let named : key_of target request ≡ codes "http://" ++ (c.in-Some.host.now ++ target) =
    ap (λ (lines : List Line). codes "http://" ++ (unwrap_or (only_line lines) [] ++ target)) c.in-Some.ensures.1 in
    let key : string_bytes c.in_ok-key.key ≡ key_of target request = c.in_ok-key.ensures ∙ sym named in
    let passed : c.deref.result.now ≡ key_of target request = c.deref.ensures ∙ key in
    inl (
      c.in_ok-lookup.lookup,
      record {
        plain = c.in-Some.ensures.0;
        looked = rw passed at c.lookup_guessing.ensures.step;
        answer = rw passed at c.in_ok-lookup.ensures.answer;
      },
      c.in_ok-action.ensures target c.in-Some.ensures.0 key,
    )
