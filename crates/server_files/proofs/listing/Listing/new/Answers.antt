use Rattle.std.{proofs.Common.{◌≡◌, List, ℕ, ap, map, subst, sym, true, ◌∙◌}, proofs.lemmas.List.Sorted.All-permutation}
use Rattle.std.specs.Prelude.{All, string_bytes}
use Rattle.server_files.{specs.Listings.{is_listable, listing_page}, proofs.ListingLemmas.all_listable}
use Rattle.server_files.proofs.listing.Listing.new.Goals as goal

pub invariant_of-result-clause-is_sorted : goal.invariant_of-result-clause-is_sorted
invariant_of-result-clause-is_sorted c = c.sort_unstable.ensures.sorted

pub invariant_of-result-clause-are_listable : goal.invariant_of-result-clause-are_listable
invariant_of-result-clause-are_listable c =
    All-permutation (λ (name : _). is_listable (string_bytes name) ≡ true) _ _ c.sort_unstable.ensures.permutation
    (subst (λ (l : _). All (λ (name : _). is_listable (string_bytes name) ≡ true) l) (sym c.in_ok-names.ensures)
    (all_listable c.args.names.items))

pub invariant_of-result-clause-is_page : goal.invariant_of-result-clause-is_page
invariant_of-result-clause-is_page c = c.in_ok-page-2.ensures
    ∙ c.in_ok-from_vec.ensures.ok
    ∙ c.in_ok-page.ensures
    ∙ ap (λ (f : List ℕ). listing_page f (map string_bytes c.deref.result.now)) c.as_str.ensures.value
    ∙ ap (λ (l : _). listing_page (string_bytes c.args.folder) (map string_bytes l)) c.deref.ensures.value
