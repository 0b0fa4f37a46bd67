use Rattle.headers_items.proofs.{CutLemmas.IsMerged-from, MergeLemmas.{IsFieldValue-more, appended, merged_more}}
use Rattle.{headers_items.specs.Merge.merge, headers_syntax.proofs.OfLinesLemmas.{OfLines-ended, OfLines-stop}}
use Rattle.headers_syntax.proofs.OfLinesLemmas.{OfLines-stopped, OfLinesSoFar-more, OfLinesSoFar-start}
use Rattle.{http_header.specs.FieldValue.FieldValue, std.proofs.Common.{ap, refl, ◌++◌, ◌∙◌, ◌∷◌, ◌≡◌}}
use Rattle.std.proofs.lemmas.Result.{IfOk-from_err}
use Rattle.headers_items.proofs.flat_csv.joined.Goals as goal

pub loop-line-init : goal.loop-line-init
loop-line-init g c = let sep = g.S.Separator.BYTE in let x = c.args.first.now.bytes in
    let y = c.args.second.now.bytes in let buffer = c.append.new.buffer.items in
    let empty = ap (λ b. b ++ c.as_bytes-first.result.now) c.in_ok-buffer.ensures.items in
    let once = c.in_ok-extend_from_slice.ensures.ok ∙ empty ∙ c.as_bytes-first.ensures.value in
    let start : buffer ≡ x ++ sep ∷ 32 ∷ y = appended buffer c.extend_from_slice.new.self.items y y
    c.separator_byte.result sep c.in_ok-append.ensures.items c.separator_byte.ensures refl ∙ ap (λ r. r ++ sep ∷ 32 ∷ y)
    once in
    record {
      can = c.requires.can;
      finite = c.requires.ends;
      valid = IsFieldValue-more sep x y buffer g.S.Separator.lawful c.as_bytes-first.ensures.valid
          c.in_ok-append.ensures.valid start;
      so_far = OfLinesSoFar-start g.I.Item.AsHeaderValue.shown g.I.Iterator.next_gives _
          (λ lines. buffer ≡ merge sep (x ∷ y ∷ lines)) start;
    }

pub loop-line-preserved : goal.loop-line-preserved
loop-line-preserved g c = let sep = g.S.Separator.BYTE in let shown = g.I.Item.AsHeaderValue.shown in
    let x = c.args.first.now.bytes in let y = c.args.second.now.bytes in let line = (shown c.in-Some.line).bytes in
    let before = c.loop-line.buffer.items in let after = c.append-in-Some.new.buffer.items in
    let more = appended after before c.as_header_value.result.now.bytes line c.separator_byte-in-Some.result sep
    c.in_ok-append-2.ensures.items c.separator_byte-in-Some.ensures (ap (λ (v : FieldValue). v.bytes)
    c.as_header_value.ensures) in let progress = c.in-Some.ensures.goes.on c.loop-line.invariant.finite in
    record {
      can = progress.0;
      finite = progress.1;
      valid = IsFieldValue-more sep before line after g.S.Separator.lawful c.loop-line.invariant.valid
          (rw c.as_header_value.ensures at c.in_ok-append-2.ensures.valid) more;
      so_far = OfLinesSoFar-more shown g.I.Iterator.next_gives _ _ _ _ (λ lines. before ≡ merge sep (x ∷ y ∷ lines))
          (λ lines. after ≡ merge sep (x ∷ y ∷ lines)) c.loop-line.invariant.so_far c.in-Some.ensures.steps
          (λ lines. merged_more sep line before after x (y ∷ lines) more);
    }

pub returns : goal.returns
returns g c = let sep = g.S.Separator.BYTE in let x = c.args.first.now.bytes in let y = c.args.second.now.bytes in
    OfLines-ended g.I.Item.AsHeaderValue.shown g.I.Iterator.next_gives _ _ _
    (λ lines. c.loop-line.buffer.items ≡ merge sep (x ∷ y ∷ lines)) _ c.loop-line.invariant.so_far
    c.in_default.ensures.steps (λ lines h. IsMerged-from sep (x ∷ y ∷ lines) _ g.S.Separator.lawful
    (ap (λ (v : FieldValue). v.bytes) c.from_known_valid.ensures ∙ c.in_ok-freeze.ensures.ok ∙ h))

pub returns-in_err-buffer : goal.returns-in_err-buffer
returns-in_err-buffer g c = OfLines-stop g.I.Item.AsHeaderValue.shown g.I.Iterator.next_gives _ _
    (λ _. IfOk-from_err c.from_residual.result _ c.from_residual.ensures.0)

pub returns-in_err-extend_from_slice : goal.returns-in_err-extend_from_slice
returns-in_err-extend_from_slice g c = OfLines-stop g.I.Item.AsHeaderValue.shown g.I.Iterator.next_gives _ _ (λ _.
    IfOk-from_err c.from_residual-in_err-extend_from_slice.result _ c.from_residual-in_err-extend_from_slice.ensures.0)

pub returns-in_err-append : goal.returns-in_err-append
returns-in_err-append g c = OfLines-stop g.I.Item.AsHeaderValue.shown g.I.Iterator.next_gives _ _
    (λ _. IfOk-from_err c.from_residual-in_err-append.result _ c.from_residual-in_err-append.ensures.0)

pub returns-in_err-append-2 : goal.returns-in_err-append-2
returns-in_err-append-2 g c = OfLines-stopped g.I.Item.AsHeaderValue.shown g.I.Iterator.next_gives _ _ _ _ (λ lines.
    c.loop-line.buffer.items ≡ merge g.S.Separator.BYTE (c.args.first.now.bytes ∷ c.args.second.now.bytes ∷ lines)) _
    c.loop-line.invariant.so_far c.in-Some.ensures.steps
    (λ _ _ _. IfOk-from_err c.from_residual-in_err-append-2.result _ c.from_residual-in_err-append-2.ensures.0)

pub returns-in_err-freeze : goal.returns-in_err-freeze
returns-in_err-freeze g c = OfLines-ended g.I.Item.AsHeaderValue.shown g.I.Iterator.next_gives _ _ _ (λ lines.
    c.loop-line.buffer.items ≡ merge g.S.Separator.BYTE (c.args.first.now.bytes ∷ c.args.second.now.bytes ∷ lines)) _
    c.loop-line.invariant.so_far c.in_default.ensures.steps
    (λ _ _. IfOk-from_err c.from_residual-in_err-freeze.result _ c.from_residual-in_err-freeze.ensures.0)
