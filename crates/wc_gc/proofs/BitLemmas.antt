-- Sets of bits.
use Rattle.std.proofs.Common.{◌≡◌, ◌≢◌, ℕ, zero, suc, ◌+◌, ◌*◌, ◌/◌, ◌%◌, ◌^◌, ◌<◌, ◌≤◌, List, length, get_or, set, max, refl, sym, ◌∙◌, ap, not, ◌⊎◌, inl, inr, arith, bit_or, bit_and}
use Rattle.std.proofs.Common.{Bool, true, false, ◌&&◌, nat_lt}
use Rattle.std.specs.Prelude.{◌==◌}
use Rattle.std.specs.Int.{bit_at}
use Rattle.std.proofs.lemmas.Nat.Bits.{bit_at-zero, bit_at_or, bit_at-pow_same, bit_at-pow_other, and_pow, bit_at-lt}
use Rattle.std.proofs.lemmas.Bool.Decides.{eqb_tells, nat_tests}
use Rattle.std.proofs.lemmas.List.{get_or_past, get_or-set_same, get_or-set_other}
use Rattle.std.proofs.lemmas.Nat.{pow_pos}
use Rattle.wc_read.proofs.NumbersLemmas.{shl_without_overflow}
use Rattle.wc_gc.specs.Bits.{bit_of}
use Rattle.wc_graph.specs.Growth.{Inserts}

-- a bit that is not set is zero under its mask
mask_zero : (b p : ℕ) → b < 2 → 0 < p → (b * p == 0) ≡ not (b == 1)
mask_zero zero p h k = let e : 0 * p ≡ 0 = omega arith in ap (λ (z : ℕ). z == 0) e
mask_zero (suc zero) p h k = grind (arith, nat_tests)
mask_zero (suc (suc b)) p h k = absurd (omega arith)

pub new_bit : (n k : ℕ) → (bit_and n (2 ^ k) == 0) ≡ not (bit_at n k == 1)
new_bit n k = ap (λ (z : ℕ). z == 0) (and_pow n k) ∙ mask_zero (bit_at n k) (2 ^ k) (bit_at-lt n k) (pow_pos k)

set_same : (n k : ℕ) → bit_at (bit_or n (2 ^ k)) k ≡ 1
set_same n k = bit_at_or n (2 ^ k) k ∙ (ap (max (bit_at n k)) (bit_at-pow_same k) ∙ (let h = bit_at-lt n k in omega arith))

set_other : (n k i : ℕ) → i ≢ k → bit_at (bit_or n (2 ^ k)) i ≡ bit_at n i
set_other n k i d = bit_at_or n (2 ^ k) i ∙ (ap (max (bit_at n i)) (bit_at-pow_other k i d) ∙ omega arith)

other_bit : (words : List ℕ) (x y : ℕ) → x / 64 < length words → y ≢ x → (i k : ℕ) → y / 64 ≡ i → y % 64 ≡ k → (i ≡ x / 64) ⊎ (i ≢ x / 64)
    → (bit_at (get_or (set words (x / 64) (bit_or (get_or words (x / 64) 0) (2 ^ (x % 64)))) i 0) k == 1) ≡ (bit_at (get_or words i 0) k == 1)
other_bit words x y h d i k ei ek (inr other) = ap (λ (z : ℕ). bit_at z k == 1) (get_or-set_other words (x / 64) i _ 0 other)
other_bit words x y h d i k ei ek (inl same) =
    let differ : k ≢ x % 64 = λ e. d (let p : y / 64 ≡ x / 64 = ei ∙ same in let q : y % 64 ≡ x % 64 = ek ∙ e in omega arith) in
    ap (λ (z : ℕ). bit_at (get_or (set words (x / 64) (bit_or (get_or words (x / 64) 0) (2 ^ (x % 64)))) z 0) k == 1) same
    ∙ (ap (λ (z : ℕ). bit_at z k == 1) (get_or-set_same words (x / 64) _ 0 h)
    ∙ (ap (λ (z : ℕ). z == 1) (set_other (get_or words (x / 64) 0) (x % 64) k differ)
    ∙ ap (λ (z : ℕ). bit_at (get_or words z 0) k == 1) (sym same)))

pub inserts_bit : (words : List ℕ) (x : ℕ) → x / 64 < length words
    → Inserts (bit_of words) (bit_of (set words (x / 64) (bit_or (get_or words (x / 64) 0) (2 ^ (x % 64))))) x
inserts_bit words x h = record {
  present = ap (λ (z : ℕ). bit_at z (x % 64) == 1) (get_or-set_same words (x / 64) _ 0 h) ∙ ap (λ (z : ℕ). z == 1) (set_same (get_or words (x / 64) 0) (x % 64));
  others = λ y d. other_bit words x y h d (y / 64) (y % 64) refl refl (elim (eqb_tells (y / 64) (x / 64)) [ inl e ↦ inl e.1 | inr n ↦ inr n.1 ]);
}

-- a mask of one bit
pub mask_is : (x : ℕ) → 1 * 2 ^ (x % 64) % 2 ^ 64 ≡ 2 ^ (x % 64)
mask_is x = shl_without_overflow 1 (x % 64) 1 (omega arith) (omega arith) ∙ one_mul (2 ^ (x % 64))
  where
    one_mul : (n : ℕ) → 1 * n ≡ n
    one_mul n = omega arith

-- a word without bits adds nothing

word_of : (words : List ℕ) (index y : ℕ) → index * 64 ≤ y → y < index * 64 + 64 → get_or words index 0 ≡ 0 → bit_of words y ≡ false
word_of words index y le lt empty =
    let here : y / 64 ≡ index = omega arith in
    ap (λ (w : ℕ). bit_at w (y % 64) == 1) (ap (λ (i : ℕ). get_or words i 0) here ∙ empty) ∙ ap (λ (w : ℕ). w == 1) (bit_at-zero (y % 64))

pub zero_word : (words : List ℕ) (index y : ℕ) (h : Bool) → get_or words index 0 ≡ 0 → h ≡ (nat_lt y (index * 64) && bit_of words y) → h ≡ (nat_lt y (index * 64 + 64) && bit_of words y)
zero_word words index y h empty e = below (nat_lt y (index * 64)) refl
  where
    above : (b : Bool) → nat_lt y (index * 64) ≡ false → nat_lt y (index * 64 + 64) ≡ b → h ≡ (nat_lt y (index * 64 + 64) && bit_of words y)
    above true out k =
        let none = word_of words index y (let s : index * 64 ≤ y = grind (arith, nat_tests, out) in s) (let s : y < index * 64 + 64 = grind (arith, nat_tests, k) in s) empty in
        e ∙ (ap (λ b. b && bit_of words y) out ∙ sym (ap (λ b. b && bit_of words y) k ∙ none))
    above false out k = e ∙ (ap (λ b. b && bit_of words y) out ∙ sym (ap (λ b. b && bit_of words y) k))

    below : (b : Bool) → nat_lt y (index * 64) ≡ b → h ≡ (nat_lt y (index * 64 + 64) && bit_of words y)
    below true k =
        let also : nat_lt y (index * 64 + 64) ≡ true = grind (arith, nat_tests, k) in
        e ∙ (ap (λ b. b && bit_of words y) k ∙ sym (ap (λ b. b && bit_of words y) also))
    below false k = above (nat_lt y (index * 64 + 64)) k refl

-- past the last word no bit is set, so a set that has the bits below is whole

past_bits : (words : List ℕ) (y : ℕ) → 64 * length words ≤ y → bit_of words y ≡ false
past_bits words y h =
    let past : length words ≤ y / 64 = omega arith in
    ap (λ (w : ℕ). bit_at w (y % 64) == 1) (get_or_past words (y / 64) 0 past) ∙ ap (λ (w : ℕ). w == 1) (bit_at-zero (y % 64))

pub all_bits : (words : List ℕ) (set : ℕ → Bool) (x : ℕ) → ((y : ℕ) → set y ≡ (nat_lt y x && bit_of words y)) → 64 * length words ≤ x → (y : ℕ) → set y ≡ bit_of words y
all_bits words set x h le y = at (nat_lt y x) refl
  where
    at : (b : Bool) → nat_lt y x ≡ b → set y ≡ bit_of words y
    at true is = h y ∙ ap (λ b. b && bit_of words y) is
    at false is =
        let past : 64 * length words ≤ y = grind (arith, nat_tests) in
        h y ∙ (ap (λ b. b && bit_of words y) is ∙ sym (past_bits words y past))
