-- Blocks as bits.
use Rattle.std.proofs.Common.{◌≡◌, ◌≢◌, ℕ, zero, suc, ◌+◌, ◌-◌, ◌*◌, ◌/◌, ◌%◌, ◌^◌, ◌<◌, ◌≤◌, List, [], ◌∷◌, ◌++◌, length, reverse, Bool, true, false, refl, sym, ◌∙◌, ap, arith}
use Rattle.std.specs.Prelude.{◌==◌, if◌then◌else◌}
use Rattle.std.specs.List.{flat_map}
use Rattle.std.proofs.lemmas.Bool.Decides.{nat_tests}
use Rattle.std.proofs.lemmas.List.{reverse-append, length-reverse}
use Rattle.wc_read.specs.Blocks.{bits_of, blocks_in}

first_bit : (n word : ℕ) → 0 < n → bits_of n word ≡ (word % 2 == 1) ∷ bits_of (n - 1) (word / 2)
unfolding bits_of
first_bit zero word some = absurd (omega arith)
first_bit (suc n) word some = let e : suc n - 1 ≡ n = omega arith in rw e refl

-- a bit below those of a word
with_bit : (n word : ℕ) (bit : Bool) → bits_of (suc n) (word * 2 + (if bit then 1 else 0)) ≡ bit ∷ bits_of n word
unfolding bits_of
with_bit n word true =
    let low : (word * 2 + 1) % 2 ≡ 1 = omega arith in
    let high : (word * 2 + 1) / 2 ≡ word = omega arith in
    rw (low, high) refl
with_bit n word false =
    let low : (word * 2 + 0) % 2 ≡ 0 = omega arith in
    let high : (word * 2 + 0) / 2 ≡ word = omega arith in
    rw (low, high) refl

pub opened : (n word more : ℕ) (others : List ℕ) (bit : Bool) → more ≡ word * 2 + (if bit then 1 else 0) → blocks_in (n + 1) more others ≡ bit ∷ blocks_in n word others
opened n word more others bit e = let next : n + 1 ≡ suc n = omega arith in rw (next, e) (ap (λ (z : List Bool). z ++ flat_map (bits_of 64) (reverse others)) (with_bit n word bit))

-- the last bit of a word, which goes to the others
pub spilled : (n word more : ℕ) (others after : List ℕ) (bit : Bool) → n ≡ 63 → more ≡ word * 2 + (if bit then 1 else 0) → after ≡ others ++ more ∷ []
    → blocks_in 0 0 after ≡ bit ∷ blocks_in n word others
unfolding bits_of
spilled n word more others after bit full e pushed =
    rw (pushed, reverse-append others (more ∷ []), full, e) (ap (λ (z : List Bool). z ++ flat_map (bits_of 64) (reverse others)) (with_bit 63 word bit))

pub closed : (n word : ℕ) (others : List ℕ) → 0 < n → blocks_in n word others ≡ (word % 2 == 1) ∷ blocks_in (n - 1) (word / 2) others
closed n word others some = ap (λ (z : List Bool). z ++ flat_map (bits_of 64) (reverse others)) (first_bit n word some)

pub closed_other : (n word any : ℕ) (others left : List ℕ) → n ≡ 0 → others ≡ left ++ word ∷ [] → blocks_in n any others ≡ (word % 2 == 1) ∷ blocks_in 63 (word / 2) left
unfolding bits_of
closed_other n word any others left none popped = rw (none, popped, reverse-append left (word ∷ [])) refl

pub none_open : (n any : ℕ) (others : List ℕ) → n ≡ 0 → length others ≡ 0 → blocks_in n any others ≡ []
unfolding bits_of
none_open n any [] none empty = rw none refl
none_open n any (x ∷ xs) none empty = absurd (omega arith)

pub half_fits : (n word : ℕ) → 0 < n → word < 2 ^ n → word / 2 < 2 ^ (n - 1)
half_fits zero word some fits = absurd (omega arith)
half_fits (suc n) word some fits = let e : suc n - 1 ≡ n = omega arith in rw e (omega arith)

pub two_closed : (n word : ℕ) (others : List ℕ) → 2 ≤ n
    → (is_if other : Bool) × (blocks : List Bool) × (blocks_in n word others ≡ is_if ∷ other ∷ blocks) × (blocks_in (n - 1) (word / 2) others ≡ other ∷ blocks)
two_closed n word others some =
    let second = closed (n - 1) (word / 2) others (omega arith) in (
      word % 2 == 1,
      word / 2 % 2 == 1,
      blocks_in (n - 1 - 1) (word / 2 / 2) others,
      closed n word others (omega arith) ∙ ap (λ (z : List Bool). (word % 2 == 1) ∷ z) second,
      second,
    )

pub else_begun : (n word : ℕ) (others : List ℕ) → 0 < n → word % 2 ≢ 0
    → (blocks : List Bool) × (blocks_in n word others ≡ true ∷ blocks) × (blocks_in n (word - 1) others ≡ false ∷ blocks)
else_begun n word others some odd =
    let one : word % 2 ≡ 1 = omega arith in
    let even : (word - 1) % 2 ≡ 0 = omega arith in
    let same : (word - 1) / 2 ≡ word / 2 = omega arith in
    (blocks_in (n - 1) (word / 2) others, rw one at (closed n word others some), rw (even, same) at (closed n (word - 1) others some))

pub some_blocks : (n word : ℕ) (others : List ℕ) → 0 < n → false ≡ (length (blocks_in n word others) == 0)
some_blocks n word others some = rw (closed n word others some) (grind (arith, nat_tests))

-- no bits of a word, and others or none
pub others_open : (n any : ℕ) (others : List ℕ) → n ≡ 0 → (length others == 0) ≡ (length (blocks_in n any others) == 0)
unfolding bits_of
others_open n any [] none = rw none refl
others_open n any (x ∷ xs) none =
    let some : (length (x ∷ xs) == 0) ≡ false = grind (arith, nat_tests) in
    rw none (some ∙ sym (by (reverse (x ∷ xs)) (let h : 0 < length (reverse (x ∷ xs)) = omega (arith, length-reverse (x ∷ xs)) in h)))
  where
    by : (ys : List ℕ) → 0 < length ys → (length (flat_map (bits_of 64) ys) == 0) ≡ false
    by [] h = absurd (omega arith)
    by (y ∷ ys) h = grind (arith, nat_tests)
