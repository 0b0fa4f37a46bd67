use Rattle.std.{proofs.Common.{◌+◌, ◌∙◌, ◌≡◌, ap, arith, length}, proofs.lemmas.Result.on_ok_weaker}
use Rattle.cache_store.{specs.Contents.{bytes_at, size_at}, specs.Kept.contents_of}
use Rattle.cache_store.{proofs.NumberLemmas.numbered-inserted, proofs.StoringLemmas.{absent_rest, inserted}}
use Rattle.cache_store.proofs.store.Store.insert.Goals as goal

pub put_with-requires-clause-absent : goal.put_with-requires-clause-absent
put_with-requires-clause-absent c = absent_rest _ _ _ _ c.take_out-responses.ensures.contents c.make_room.ensures.kept

pub returns-clause-ok : goal.returns-clause-ok
returns-clause-ok c = let kept = c.trim-bytes.new.responses.items in
    let bytes : c.trim-bytes.result + c.args.size ≡ bytes_at c.args.target.now
    kept + size_at c.args.target.now c.args.new = omega (arith, c.trim-bytes.ensures.bytes, c.requires.size) in
    let count : c.len.result + 1 ≡ length kept + 1 = ap
    (λ n. n + 1) (c.len.ensures ∙ c.trim-bytes.new.responses.ok.0) in
    on_ok_weaker _ (inserted _ _ _ _ _ _ _ _ _ _ kept _ _ _ _ c.take_out-responses.ensures.limits
    c.take_out-responses.ensures.contents c.take_out-responses.ensures.taken c.head.ensures c.supersede.ensures.rest
    c.requires.size c.trim-bytes.ensures.trimmed count bytes c.make_room.ensures.kept) c.put_with.ensures.ok

pub put_with-requires-clause-numbers : goal.put_with-requires-clause-numbers
put_with-requires-clause-numbers c =
    rw (c.make_room.ensures.next ∙ c.take_out-responses.ensures.next) (numbered-inserted c.args.self.now.next c.args.new
    (contents_of c.args.self.now) (contents_of c.take_out-responses.new.self) (contents_of c.make_room.new.self)
    c.take_out-responses.result.items c.supersede.new.responses.items c.trim-bytes.new.responses.items
    c.args.self.now.counted.numbered c.requires.last c.requires.unused c.take_out-responses.ensures.numbers
    c.supersede.ensures.numbers c.trim-bytes.ensures.trimmed.count c.trim-bytes.ensures.trimmed.left
    c.make_room.ensures.kept.count c.make_room.ensures.kept.front)
