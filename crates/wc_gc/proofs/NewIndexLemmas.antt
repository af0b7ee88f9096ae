-- New indices are ranks.
use Rattle.std.proofs.lemmas.Bool.Decides.{nat_tests}
use Rattle.std.specs.Prelude.{nat_lt}
use Rattle.wc_read.specs.declared.operators.Space.TheVariants.{Types, Funcs}
use Rattle.wc_gc.specs.NewIndices.{new_of, new_added_func}
use Rattle.std.proofs.Common.{true, false, cond, ◌≡◌, ℕ, ◌+◌, ◌-◌, ◌<◌, ◌≤◌, ◌^◌, refl, sym, ◌∙◌, ap, arith}
use Rattle.wc_gc.specs.Counts.{count_below}
use Rattle.wc_gc.specs.Ranks.{has_number, rank_of}
use Rattle.wc_gc.specs.declared.new_indices.NewIndices.{NewIndices}
use Rattle.wc_gc.proofs.RankLemmas.{bounded_below, more_below, both_below}

-- they are numbers of 32 bits, also past the last item

pub type_room : (n : NewIndices) (x : ℕ) → n.counts.types ≤ x → x < 2 ^ 32 → n.live_types + (x - n.counts.types) < 2 ^ 32
type_room n x h small = omega (arith, bounded_below (has_number n.ranks.types) n.counts.types, n.types_counted)

pub func_room : (n : NewIndices) (x : ℕ) → n.counts.funcs ≤ x → x < 2 ^ 32 → n.live_imports + n.live_defined + (x - n.counts.funcs) < 2 ^ 32
func_room n x h small =
    omega (arith, both_below (has_number n.ranks.imports) (has_number n.ranks.defined) n.disjoint n.counts.funcs, n.imports_counted, n.defined_counted)

pub old_room : (n : NewIndices) (x : ℕ) → x < n.counts.funcs → n.live_imports + n.counts.added_imports + rank_of n.ranks.defined x < 2 ^ 32
old_room n x h =
    let more = more_below (has_number n.ranks.defined) x (n.counts.funcs - x) in
    let all = ap (count_below (has_number n.ranks.defined)) (let e : x + (n.counts.funcs - x) ≡ n.counts.funcs = omega arith in e) in
    omega (arith, more, all, n.defined_counted, n.funcs_fit)

-- what is added has the indices after the adapter's own

added_is : (n : NewIndices) (k : ℕ) → new_added_func n k ≡ new_of n Funcs (n.counts.funcs + k)
unfolding new_of
added_is n k =
    let past : nat_lt (n.counts.funcs + k) n.counts.funcs ≡ false = grind (arith, nat_tests) in
    let rest : n.counts.funcs + k - n.counts.funcs ≡ k = omega arith in
    rw (past, rest) refl

pub added_first : (n : NewIndices) (k : ℕ) → k < n.counts.added_imports → n.live_imports + k ≡ new_of n Funcs (n.counts.funcs + k)
added_first n k h =
    let test : nat_lt k n.counts.added_imports ≡ true = grind (arith, nat_tests) in
    sym (ap (λ b. cond b (n.live_imports + k) (n.live_imports + n.live_defined + k)) test) ∙ added_is n k

pub added_later : (n : NewIndices) (k : ℕ) → n.counts.added_imports ≤ k → n.live_imports + n.live_defined + k ≡ new_of n Funcs (n.counts.funcs + k)
added_later n k h =
    let test : nat_lt k n.counts.added_imports ≡ false = grind (arith, nat_tests) in
    sym (ap (λ b. cond b (n.live_imports + k) (n.live_imports + n.live_defined + k)) test) ∙ added_is n k

pub added_type_is : (n : NewIndices) (k : ℕ) → n.live_types + k ≡ new_of n Types (n.counts.types + k)
unfolding new_of
added_type_is n k =
    let past : nat_lt (n.counts.types + k) n.counts.types ≡ false = grind (arith, nat_tests) in
    let rest : n.counts.types + k - n.counts.types ≡ k = omega arith in
    rw (past, rest) refl
