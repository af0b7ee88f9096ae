-- How many numbers of a set are below one.
use Rattle.std.proofs.Common.{◌≡◌, ℕ, zero, suc, ◌+◌, ◌≤◌, [], ◌∷◌, refl, sym, ◌∙◌, ap, Bool, true, false, cond, arith, count_by}
use Rattle.std.specs.List.{range_with_len}
use Rattle.std.proofs.lemmas.Bool.{false≢true}
use Rattle.std.proofs.lemmas.List.Sums.{sum_by-append, count_by-le-length}
use Rattle.std.proofs.lemmas.List.FromFn.{length-range_with_len}
use Rattle.wc_gc.specs.Counts.{AreDisjoint, count_below}
use Rattle.wc_graph.proofs.ListLemmas.{range_more}

pub one_more : (has : ℕ → Bool) (n : ℕ) → count_below has (suc n) ≡ count_below has n + cond (has n) 1 0
one_more has n =
    let cut = ap (count_by has) (range_more 0 n) ∙ sum_by-append (λ (k : ℕ). cond (has k) 1 0) (range_with_len 0 n) ((0 + n) ∷ []) in
    let one : ℕ → ℕ = λ k. cond (has k) 1 0 in
    let last : one (0 + n) ≡ one n = ap one (let e : 0 + n ≡ n = omega arith in e) in
    omega (arith, cut, last)

pub bounded_below : (has : ℕ → Bool) (n : ℕ) → count_below has n ≤ n
bounded_below has n = omega (arith, count_by-le-length has (range_with_len 0 n), length-range_with_len 0 n)

pub more_below : (has : ℕ → Bool) (n k : ℕ) → count_below has n ≤ count_below has (n + k)
more_below has n zero = omega (arith, ap (count_below has) (let e : n + 0 ≡ n = omega arith in e))
more_below has n (suc k) =
    let more = one_more has (n + k) in
    let next = ap (count_below has) (let e : n + suc k ≡ suc (n + k) = omega arith in e) in
    omega (arith, more_below has n k, more, next)

-- of two sets that have no number in common

one_of_two : (a b : Bool) → (a ≡ true → b ≡ false) → cond a 1 0 + cond b 1 0 ≤ 1
one_of_two true true h = absurd (false≢true (sym (h refl)))
one_of_two true false h = omega arith
one_of_two false true h = omega arith
one_of_two false false h = omega arith

pub both_below : (p q : ℕ → Bool) → AreDisjoint p q → (n : ℕ) → count_below p n + count_below q n ≤ n
both_below p q h zero = omega arith
both_below p q h (suc n) = omega (arith, both_below p q h n, one_more p n, one_more q n, one_of_two (p n) (q n) (h n))
