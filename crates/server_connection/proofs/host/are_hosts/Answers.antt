use Rattle.std.proofs.Common.{◌≤◌, List, [], ◌∷◌, map, length, All, take_all, sym, refl, ap, ◌∙◌, subst, arith}
use Rattle.std.proofs.lemmas.{Bool.false≢true, List.Elements.{All-nil, All-cons, All-head, All-tail, All-map}}
use Rattle.std.{proofs.lemmas.List.Elements.{All-get_or, All-more}, specs.Prelude.codes}
use Rattle.{httparse.specs.{Spans.header_bytes, declared.spans.HeaderSpan.HeaderSpan}, http1.specs.Text.eq_ignore_case}
use Rattle.http_server.specs.Host.{IsHostValid, IsHostText}
use Rattle.server_connection.proofs.host.are_hosts.Goals.{else-eq_ignore_case-via-then-eq_ignore_case+else-not-is_host}
use Rattle.server_connection.proofs.host.are_hosts.Goals.{else-eq_ignore_case-via-else-eq_ignore_case}
use Rattle.server_connection.proofs.host.are_hosts.Goals as goal

all_of_map : {X Y : Type 0} (P : Y → Type 0) (f : X → Y) (xs : List X) → All P (map f xs) → All (λ x. P (f x)) xs
all_of_map P f [] h = All-nil (λ x. P (f x))
all_of_map P f (x ∷ xs) h =
    All-cons (λ x. P (f x)) x xs (All-head P (f x) (map f xs) h) (all_of_map P f xs (All-tail P (f x) (map f xs) h))

pub loop-span-init : goal.loop-span-init
loop-span-init c = All-nil _

abbrev no_span : HeaderSpan
no_span = record { name = record { start = 0; end = 0 }; value = record { start = 0; end = 0 } }

pub returns-then-not-is_host : goal.returns-then-not-is_host
returns-then-not-is_host c = (
  λ wrong. cc,
  λ all.
      let each = all_of_map IsHostValid (header_bytes c.args.input.now) c.args.spans.now all in
      let here = All-get_or (λ s. IsHostValid (header_bytes c.args.input.now s)) c.args.spans.now
      c.loop-span.span-index no_span c.loop-span-test.true each in
      let named = sym (c.eq_ignore_case.ensures ∙ ap (λ t. eq_ignore_case t (codes "host")) c.of.ensures) ∙
      c.if-eq_ignore_case.true in
      let text = subst IsHostText (sym c.of-then-eq_ignore_case.ensures) (here named) in
      sym c.if-not-is_host.true ∙ c.is_host.ensures.1 text,
)

pub loop-span-preserved : goal.loop-span-preserved
loop-span-preserved c = All-more (λ s. IsHostValid (header_bytes c.args.input.now s)) c.args.spans.now
    c.loop-span.span-index no_span c.loop-span-test.true c.loop-span.invariant
    (λ named. elim c.else-eq_ignore_case.branch [
      | else-eq_ignore_case-via-then-eq_ignore_case+else-not-is_host w ↦
          subst IsHostText w.of-then-eq_ignore_case.ensures (w.is_host.ensures.0 w.if-not-is_host.false)
      | else-eq_ignore_case-via-else-eq_ignore_case w ↦
          absurd (false≢true (sym w.if-eq_ignore_case.false ∙ c.eq_ignore_case.ensures ∙ ap
          (λ t. eq_ignore_case t (codes "host")) c.of.ensures ∙ named))
    ])

pub returns : goal.returns
returns c =
    let finished : length c.args.spans.now ≤ c.loop-span.span-index = omega (arith, c.loop-span-test.false) in (
      λ _. All-map IsHostValid (header_bytes c.args.input.now) c.args.spans.now
          (subst (All (λ s. IsHostValid (header_bytes c.args.input.now s)))
          (take_all c.loop-span.span-index c.args.spans.now finished) c.loop-span.invariant),
      λ _. refl,
    )
