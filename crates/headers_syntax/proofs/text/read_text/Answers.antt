use Rattle.headers_syntax.{proofs.TextLemmas.{is_text-from_visible, no_text}, specs.Text.is_text}
use Rattle.{http_header.specs.FieldValue.IsVisibleAscii, std.proofs.Common.{false, refl, true, ◌≡◌}}
use Rattle.headers_syntax.proofs.text.read_text.Goals as goal

pub returns-in-Ok-clause-value : goal.returns-in-Ok-clause-value
returns-in-Ok-clause-value c = let plain : is_text c.args.value.now.bytes ≡ true = is_text-from_visible _
    (c.in-Ok.ensures.succeeds.0 refl) in rw (plain, c.in-Ok.ensures.ok) refl

pub returns-in-Ok-clause-cases : goal.returns-in-Ok-clause-cases
returns-in-Ok-clause-cases c = (is_text-from_visible _ (c.in-Ok.ensures.succeeds.0 refl), c.in-Ok.ensures.ok)

pub returns-in-Err-clause-value : goal.returns-in-Err-clause-value
returns-in-Err-clause-value c = let other : is_text c.args.value.now.bytes ≡ false = no_text _ (λ (visible
    : IsVisibleAscii c.args.value.now.bytes). absurd (cc (c.in-Err.ensures.succeeds.1 visible))) in rw other refl

pub returns-in-Err-clause-cases : goal.returns-in-Err-clause-cases
returns-in-Err-clause-cases c = no_text c.args.value.now.bytes
    (λ (visible : IsVisibleAscii c.args.value.now.bytes). absurd (cc (c.in-Err.ensures.succeeds.1 visible)))
