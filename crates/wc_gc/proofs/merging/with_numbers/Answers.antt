use Rattle.std.proofs.Common.{◌≤◌, ◌∙◌, ℕ, ap, sym, rules}
use Rattle.std.proofs.lemmas.List.Sorted.{All-permutation, IsNonDecreasingBy-from_sort_by_key, list_any-IsPermutation}
use Rattle.wc_gc.specs.Ranges.{in_ranges, is_within}
use Rattle.wc_gc.proofs.merging.with_numbers.Goals as goal

pub merge-requires-clause-filled : goal.merge-requires-clause-filled
merge-requires-clause-filled c =
    rw c.deref.ensures.value (All-permutation (λ (r : ℕ × ℕ). r.0 ≤ r.1) c.in_ok-pieces.pieces.items _ c.sort_unstable_by_key.ensures.permutation c.in_ok-pieces.ensures.filled)

pub merge-requires-clause-ordered : goal.merge-requires-clause-ordered
merge-requires-clause-ordered c =
    rw c.deref.ensures.value (IsNonDecreasingBy-from_sort_by_key (λ (r : ℕ × ℕ). r.0) _ c.sort_unstable_by_key.ensures.sorted (λ a r q k. search rules))

pub returns-clause-has : goal.returns-clause-has
returns-clause-has c = λ y.
    c.in_ok-merged.ensures.has y
    ∙ (ap (λ rs. in_ranges rs y) c.deref.ensures.value
    ∙ (sym (list_any-IsPermutation (is_within y) c.in_ok-pieces.pieces.items _ c.sort_unstable_by_key.ensures.permutation) ∙ c.in_ok-pieces.ensures.has y))
