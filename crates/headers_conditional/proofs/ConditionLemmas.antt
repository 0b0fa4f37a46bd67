-- Whether a condition that was made from a tag passes.
use Rattle.std.proofs.Common.{◌≡◌, ℕ, true, false, List, ◌↔◌, refl}
use Rattle.headers_syntax.{specs.EntityTag.{TagParts, IsTag, StronglyEqual, WeaklyEqual}, specs.Text.is_text}
use Rattle.headers_conditional.{specs.IfMatch.MatchPasses, specs.IfNoneMatch.NoneMatchPasses}
use Rattle.headers_core.specs.declared.entity_tag_range.EntityTagRange.TheVariants.{Tags}
use Rattle.headers_core.proofs.EntityTagRangeLemmas.{HasItem-tags, HasItem-no_text}

pub match_text : (bytes tag : List ℕ) (parts others : TagParts) → IsTag bytes parts → IsTag tag others
    → is_text bytes ≡ true
    → (MatchPasses (Tags bytes) tag ↔ StronglyEqual parts others)
match_text = HasItem-tags StronglyEqual

pub match_own_text : (bytes : List ℕ) (parts : TagParts) → IsTag bytes parts → is_text bytes ≡ true
    → (MatchPasses (Tags bytes) bytes ↔ (parts.is_weak ≡ false))
match_own_text bytes parts h t =
    let own = match_text bytes bytes parts parts h h t in
    (λ p. (own.0 p).left, λ strong. own.1 (record { left = strong; right = strong; opaque = refl }))

pub match_own_no_text : (bytes tag : List ℕ) (parts : TagParts) → IsTag bytes parts → is_text bytes ≡ false
    → ¬ (MatchPasses (Tags bytes) tag)
match_own_no_text bytes tag parts h = HasItem-no_text StronglyEqual bytes tag

pub none_match_text : (bytes tag : List ℕ) (parts others : TagParts) → IsTag bytes parts → IsTag tag others
    → is_text bytes ≡ true
    → (NoneMatchPasses (Tags bytes) tag ↔ (¬ (WeaklyEqual parts others)))
none_match_text bytes tag parts others h k t =
    let matches = HasItem-tags WeaklyEqual bytes tag parts others h k t in
    (λ passes equal. passes (matches.1 equal), λ differ match. differ (matches.0 match))

pub none_match_own_text : (bytes : List ℕ) (parts : TagParts) → IsTag bytes parts → is_text bytes ≡ true
    → ¬ (NoneMatchPasses (Tags bytes) bytes)
none_match_own_text bytes parts h t passes = (none_match_text bytes bytes parts parts h h t).0 passes refl

pub none_match_own_no_text : (bytes tag : List ℕ) (parts : TagParts) → IsTag bytes parts → is_text bytes ≡ false
    → NoneMatchPasses (Tags bytes) tag
none_match_own_no_text bytes tag parts h = HasItem-no_text WeaklyEqual bytes tag
