-- A number that no fewer bytes spell is spelled by its text.
use Rattle.std.proofs.Common.{◌≡◌, ℕ, zero, suc, ◌+◌, ◌-◌, ◌*◌, ◌/◌, ◌%◌, ◌^◌, ◌<◌, ◌≤◌, List, [], ◌∷◌, ◌++◌, length, take, drop, All, Some, ℤ, pos, negsuc, Bool, true, false, not, nat_eq, eqb-true, refl, sym, ◌∙◌, ap, arith, inl, inr}
use Rattle.std.proofs.Math.Nat.{div-eq_of_lt}
use Rattle.std.proofs.Math.Pow.{pow_mono}
use Rattle.std.proofs.lemmas.Nat.{pow-add}
use Rattle.std.proofs.lemmas.Bool.{cases_lt}
use Rattle.std.proofs.lemmas.Bool.Decides.{nat_tests}
use Rattle.std.proofs.lemmas.List.{length-append, length-take-le, take-append-drop}
use Rattle.std.proofs.lemmas.List.Elements.{All-nil, All-cons, All-head, All-tail}
use Rattle.wc_read.specs.Formats.{SpellsNumber, last, more}
use Rattle.wc_read.specs.Signed.{SpellsSigned, last_positive, last_negative, more_signed}
use Rattle.wc_read.specs.Text.{digits, number_text, signed_digit, signed_digits, signed_text}
use Rattle.wc_read.specs.Reading.Reader.{number_at, bytes_at}
use Rattle.wc_read.specs.Reading.Signed.{last_of, signed_at}
use Rattle.std.specs.Prelude.{nat_lt, nat_le}
use Rattle.wc_read.specs.Private.TextSizes.{IsTextSize, SizesMemArg, IsLonger, IsShortest, IsShortestSigned, without_sign}
use Rattle.wc_read.specs.Reading.Reader.{where_at}
use Rattle.wc_read.specs.Reading.Instructions.{are_flags, mem_arg_at}
use Rattle.wc_read.proofs.MeetsLemmas.{number_meets}
use Rattle.wc_read.proofs.NumbersLemmas.{fits_if_shifted_out, number_last}
use Rattle.wc_read.proofs.SignedLemmas.{signed_meets}
use Rattle.wc_read.proofs.SignedLoopLemmas.{signed_last}
use Rattle.wc_read.proofs.OptionsLemmas.{bind_some}

abbrev pub AreBytes : List ℕ → Type 0
AreBytes bytes = All (λ b. b < 256) bytes

front_bytes : (a b : List ℕ) → AreBytes (a ++ b) → AreBytes a
front_bytes [] b all = All-nil (λ (x : ℕ). x < 256)
front_bytes (x ∷ a) b all = All-cons (λ (x : ℕ). x < 256) x a (All-head (λ (x : ℕ). x < 256) x (a ++ b) all) (front_bytes a b (All-tail (λ (x : ℕ). x < 256) x (a ++ b) all))

-- digits

pub digits_last : (left n : ℕ) → n < 128 → digits left n ≡ n ∷ []
unfolding digits
digits_last zero n small = refl
digits_last (suc left) n small = grind (arith, nat_tests)

digits_more : (left n : ℕ) → 128 ≤ n → digits (suc left) n ≡ (128 + n % 128) ∷ digits left (n / 128)
unfolding digits
digits_more left n large = grind (arith, nat_tests)

digit_last : (negative : Bool) (left n : ℕ) → n < 64 → signed_digits negative left n ≡ signed_digit negative n ∷ []
unfolding signed_digits
digit_last negative zero n small = refl
digit_last negative (suc left) n small = grind (arith, nat_tests)

digit_more : (negative : Bool) (left n : ℕ) → 64 ≤ n → signed_digits negative (suc left) n ≡ (128 + signed_digit negative (n % 128)) ∷ signed_digits negative left (n / 128)
unfolding signed_digits
digit_more negative left n large = grind (arith, nat_tests)

-- seven bits less
seven_less : (k : ℕ) → 0 < k → 2 ^ (7 * k) ≡ 2 ^ (7 * (k - 1)) * 128
seven_less k some =
    let e : 7 * (k - 1) + 7 ≡ 7 * k = omega arith in
    let p : 2 ^ (7 * (k - 1) + 7) ≡ 2 ^ (7 * (k - 1)) * 2 ^ 7 = pow-add 2 (7 * (k - 1)) 7 in
    rw e at p

seven_less_signed : (k : ℕ) → 1 < k → 2 ^ (7 * k - 1) ≡ 2 ^ (7 * (k - 1) - 1) * 128
seven_less_signed k some =
    let e : 7 * (k - 1) - 1 + 7 ≡ 7 * k - 1 = omega arith in
    let p : 2 ^ (7 * (k - 1) - 1 + 7) ≡ 2 ^ (7 * (k - 1) - 1) * 2 ^ 7 = pow-add 2 (7 * (k - 1) - 1) 7 in
    rw e at p

some_byte : {bits n : ℕ} {bytes : List ℕ} → SpellsNumber bits bytes n → 0 < length bytes
some_byte (last small fits) = omega arith
some_byte (more seven large s) = omega arith

some_signed : {bits : ℕ} {z : ℤ} {bytes : List ℕ} → SpellsSigned bits bytes z → 0 < length bytes
some_signed (last_positive small fits) = omega arith
some_signed (last_negative large small fits) = omega arith
some_signed (more_signed seven large s) = omega arith

shortest_text : (left : ℕ) {bits n : ℕ} {bytes : List ℕ} → SpellsNumber bits bytes n → AreBytes bytes → length bytes ≤ suc left → (1 < length bytes → 2 ^ (7 * (length bytes - 1)) ≤ n) → bytes ≡ digits left n
shortest_text left {n = n} (last small fits) all short shortest = sym (digits_last left n small)
shortest_text zero (more {b = b} {high = high} {bytes = bytes} seven large s) all short shortest = let some = some_byte s in absurd (omega arith)
shortest_text (suc left) (more {b = b} {high = high} {bytes = bytes} seven large s) all short shortest =
    let byte : b < 256 = All-head (λ (b : ℕ). b < 256) b bytes all in
    let some : 0 < length bytes = some_byte s in
    let one : length (b ∷ bytes) - 1 ≡ length bytes = omega arith in
    let low : 2 ^ (7 * length bytes) ≤ b - 128 + 128 * high = rw one at (shortest (omega arith)) in
    let seven_bits : 2 ^ 7 ≤ 2 ^ (7 * length bytes) = pow_mono {i = 7} {j = 7 * length bytes} (omega arith) in
    let big : 128 ≤ b - 128 + 128 * high = omega arith in
    let up : (b - 128 + 128 * high) / 128 ≡ high = omega arith in
    let down : 128 + (b - 128 + 128 * high) % 128 ≡ b = omega arith in
    let cut : 2 ^ (7 * length bytes) ≡ 2 ^ (7 * (length bytes - 1)) * 128 = seven_less (length bytes) some in
    let rest : bytes ≡ digits left high = shortest_text left s (All-tail (λ (b : ℕ). b < 256) b bytes all) (omega arith) (λ _. omega arith) in
    rw (digits_more left (b - 128 + 128 * high) big, up, down) (ap (λ (z : List ℕ). b ∷ z) rest)

-- the text has no more bytes than any others that spell the number

digits_most : (left n : ℕ) → length (digits left n) ≤ suc left
unfolding digits
digits_most zero n = omega arith
digits_most (suc left) n = elim (cases_lt n 128) [
  | inl small ↦ rw (digits_last (suc left) n small) (omega arith)
  | inr large ↦ rw (digits_more left n large) (let h = digits_most left (n / 128) in omega arith)
]

digits_within : (left k n : ℕ) → 0 < k → n < 2 ^ (7 * k) → length (digits left n) ≤ k
digits_within zero k n some fits = let h = digits_most zero n in omega arith
digits_within (suc left) zero n some fits = absurd (omega arith)
digits_within (suc left) (suc zero) n some fits = let small : n < 128 = omega (arith, fits) in rw (digits_last (suc left) n small) (omega arith)
digits_within (suc left) (suc (suc k)) n some fits = elim (cases_lt n 128) [
  | inl small ↦ rw (digits_last (suc left) n small) (omega arith)
  | inr large ↦
      let e : suc (suc k) - 1 ≡ suc k = omega arith in
      let cut : 2 ^ (7 * suc (suc k)) ≡ 2 ^ (7 * suc k) * 128 = rw e at (seven_less (suc (suc k)) (omega arith)) in
      let up : n / 128 < 2 ^ (7 * suc k) = omega arith in
      let h = digits_within left (suc k) (n / 128) (omega arith) up in
      rw (digits_more left n large) (omega arith)
]

pub text_shorter : (n size : ℕ) → IsLonger n size → length (number_text n) < size
text_shorter n size (two, inl many) = let h = digits_most 9 n in omega arith
text_shorter n size (two, inr low) = let h = digits_within 9 (size - 1) n (omega arith) low in omega arith

-- bits above are all lost
pub all_out : (n k : ℕ) → not (nat_eq (n / 2 ^ k) 0) ≡ false → n < 2 ^ k
all_out n k h = fits_if_shifted_out n k (eqb-true (n / 2 ^ k) 0 (is_so (nat_eq (n / 2 ^ k) 0) h))
  where
    is_so : (b : Bool) → not b ≡ false → b ≡ true
    is_so true e = refl
    is_so false e = absurd cc

abbrev signed_with : ℕ → ℤ → List ℕ
signed_with left (pos n) = signed_digits false left n
signed_with left (negsuc m) = signed_digits true left m

shortest_signed : (left : ℕ) {bits : ℕ} {z : ℤ} {bytes : List ℕ} → SpellsSigned bits bytes z → AreBytes bytes → length bytes ≤ suc left → (1 < length bytes → 2 ^ (7 * (length bytes - 1) - 1) ≤ without_sign z) → bytes ≡ signed_with left z
shortest_signed left (last_positive {b = b} small fits) all short shortest = sym (digit_last false left b small)
shortest_signed left (last_negative {b = b} large small fits) all short shortest =
    let back : 127 - (127 - b) ≡ b = omega arith in
    sym (digit_last true left (127 - b) (omega arith) ∙ ap (λ (x : ℕ). x ∷ []) back)
shortest_signed zero (more_signed {b = b} {bytes = bytes} seven large s) all short shortest = let some = some_signed s in absurd (omega arith)
shortest_signed (suc left) (more_signed {b = b} {high = pos h} {bytes = bytes} seven large s) all short shortest =
    let byte : b < 256 = All-head (λ (b : ℕ). b < 256) b bytes all in
    let some : 0 < length bytes = some_signed s in
    let one : length (b ∷ bytes) - 1 ≡ length bytes = omega arith in
    let low : 2 ^ (7 * length bytes - 1) ≤ b - 128 + 128 * h = rw one at (shortest (omega arith)) in
    let six_bits : 2 ^ 6 ≤ 2 ^ (7 * length bytes - 1) = pow_mono {i = 6} {j = 7 * length bytes - 1} (omega arith) in
    let big : 64 ≤ b - 128 + 128 * h = omega arith in
    let up : (b - 128 + 128 * h) / 128 ≡ h = omega arith in
    let down : 128 + (b - 128 + 128 * h) % 128 ≡ b = omega arith in
    let rest : bytes ≡ signed_digits false left h =
    shortest_signed left s (All-tail (λ (b : ℕ). b < 256) b bytes all) (omega arith) (λ two. let cut = seven_less_signed (length bytes) two in omega arith) in
    rw (digit_more false left (b - 128 + 128 * h) big, up, down) (ap (λ (z : List ℕ). b ∷ z) rest)
shortest_signed (suc left) (more_signed {b = b} {high = negsuc m} {bytes = bytes} seven large s) all short shortest =
    let byte : b < 256 = All-head (λ (b : ℕ). b < 256) b bytes all in
    let some : 0 < length bytes = some_signed s in
    let one : length (b ∷ bytes) - 1 ≡ length bytes = omega arith in
    let low : 2 ^ (7 * length bytes - 1) ≤ 128 - 1 - (b - 128) + 128 * m = rw one at (shortest (omega arith)) in
    let six_bits : 2 ^ 6 ≤ 2 ^ (7 * length bytes - 1) = pow_mono {i = 6} {j = 7 * length bytes - 1} (omega arith) in
    let big : 64 ≤ 128 - 1 - (b - 128) + 128 * m = omega arith in
    let up : (128 - 1 - (b - 128) + 128 * m) / 128 ≡ m = omega arith in
    let down : 128 + (127 - (128 - 1 - (b - 128) + 128 * m) % 128) ≡ b = omega arith in
    let rest : bytes ≡ signed_digits true left m =
    shortest_signed left s (All-tail (λ (b : ℕ). b < 256) b bytes all) (omega arith) (λ two. let cut = seven_less_signed (length bytes) two in omega arith) in
    rw (digit_more true left (128 - 1 - (b - 128) + 128 * m) big, up, down) (ap (λ (z : List ℕ). b ∷ z) rest)

-- a number of one byte

below_whole : (bits b : ℕ) → 7 ≤ bits → b < 128 → b < 2 ^ bits
below_whole bits b width small = let p : 2 ^ 7 ≤ 2 ^ bits = pow_mono {i = 7} {j = bits} (omega arith) in omega arith

pub number_short : (bits : ℕ) (input : List ℕ) (b : ℕ) (rest : List ℕ) → 7 ≤ bits → input ≡ b ∷ rest → b < 128 → IsTextSize (number_at bits) number_text input 1
number_short bits input b rest width e small = record {
  value = b;
  left = rest;
  read_is = rw e (number_last bits b rest small (below_whole bits b width small));
  cut = rw (e, digits_last 9 b small) refl;
  size_is = rw (digits_last 9 b small) refl;
}

below_half : (bits b : ℕ) → 7 ≤ bits → b < 64 → b < 2 ^ (bits - 1)
below_half bits b width small = let p : 2 ^ 6 ≤ 2 ^ (bits - 1) = pow_mono {i = 6} {j = bits - 1} (omega arith) in omega arith

positive : (bits b : ℕ) → b < 64 → b < 2 ^ (bits - 1) → last_of bits b ≡ Some (pos b)
positive bits b small fits = grind (arith, nat_tests)

negative : (bits b : ℕ) → 64 ≤ b → 127 - b < 2 ^ (bits - 1) → last_of bits b ≡ Some (negsuc (127 - b))
negative bits b large fits = grind (arith, nat_tests)

pub signed_short : (bits : ℕ) (input : List ℕ) (b : ℕ) (rest : List ℕ) → 7 ≤ bits → input ≡ b ∷ rest → b < 128 → IsTextSize (signed_at bits) signed_text input 1
signed_short bits input b rest width e small =
    elim (cases_lt b 64) [
      | inl low ↦ record {
        value = pos b;
        left = rest;
        read_is = rw e (signed_last bits b rest small ∙ bind_some (last_of bits b) _ (pos b) (positive bits b low (below_half bits b width low)));
        cut = rw (e, digit_last false 9 b low) refl;
        size_is = rw (digit_last false 9 b low) refl;
      }
      | inr high ↦
          let back : 127 - (127 - b) ≡ b = omega arith in
          let under : 127 - b < 64 = omega arith in
          record {
            value = negsuc (127 - b);
            left = rest;
            read_is = rw e (signed_last bits b rest small ∙ bind_some (last_of bits b) _ (negsuc (127 - b)) (negative bits b high (below_half bits (127 - b) width under)));
            cut = rw (e, digit_last true 9 (127 - b) under, back) refl;
            size_is = rw (digit_last true 9 (127 - b) under) refl;
          }
    ]

-- a number that was read, and its size

pub number_left : (bits : ℕ) (input : List ℕ) (n : ℕ) (rest : List ℕ) → number_at bits input ≡ Some (n, rest) → length rest ≤ length input
number_left bits input n rest e = let t = (number_meets bits).parses input n rest e in rw t.1 (omega (arith, length-append t.0 rest))

pub signed_left : (bits : ℕ) (input : List ℕ) (z : ℤ) (rest : List ℕ) → signed_at bits input ≡ Some (z, rest) → length rest ≤ length input
signed_left bits input z rest e = let t = (signed_meets bits).parses input z rest e in rw t.1 (omega (arith, length-append t.0 rest))

pub number_long : (bits : ℕ) (input : List ℕ) (n : ℕ) (rest : List ℕ) → AreBytes input → number_at bits input ≡ Some (n, rest) → IsShortest n (length input - length rest) → IsTextSize (number_at bits) number_text input (length input - length rest)
number_long bits input n rest all e shortest =
    let t = (number_meets bits).parses input n rest e in
    let parts : length input ≡ length t.0 + length rest = ap length t.1 ∙ length-append t.0 rest in
    let size : length input - length rest ≡ length t.0 = omega arith in
    let fewest : 1 < length t.0 → (length t.0 ≤ 10) × (2 ^ (7 * (length t.0 - 1)) ≤ n) = rw size at shortest in
    let short : length t.0 ≤ 10 = elim (cases_lt 1 (length t.0)) [ inl two ↦ (fewest two).0 | inr one ↦ omega arith ] in
    let text : t.0 ≡ number_text n = shortest_text 9 t.2 (front_bytes t.0 rest (rw t.1 at all)) short (λ two. (fewest two).1) in
    record { value = n; left = rest; read_is = e; cut = t.1 ∙ ap (λ (z : List ℕ). z ++ rest) text; size_is = size ∙ ap length text }

text_of : (z : ℤ) → signed_with 9 z ≡ signed_text z
text_of (pos n) = refl
text_of (negsuc m) = refl

pub signed_long : (bits : ℕ) (input : List ℕ) (z : ℤ) (rest : List ℕ) → AreBytes input → signed_at bits input ≡ Some (z, rest) → IsShortestSigned z (length input - length rest)
    → IsTextSize (signed_at bits) signed_text input (length input - length rest)
signed_long bits input z rest all e shortest =
    let t = (signed_meets bits).parses input z rest e in
    let parts : length input ≡ length t.0 + length rest = ap length t.1 ∙ length-append t.0 rest in
    let size : length input - length rest ≡ length t.0 = omega arith in
    let fewest : 1 < length t.0 → (length t.0 ≤ 10) × (2 ^ (7 * (length t.0 - 1) - 1) ≤ without_sign z) = rw size at shortest in
    let short : length t.0 ≤ 10 = elim (cases_lt 1 (length t.0)) [ inl two ↦ (fewest two).0 | inr one ↦ omega arith ] in
    let text : t.0 ≡ signed_text z = shortest_signed 9 t.2 (front_bytes t.0 rest (rw t.1 at all)) short (λ two. (fewest two).1) ∙ text_of z in
    record { value = z; left = rest; read_is = e; cut = t.1 ∙ ap (λ (z : List ℕ). z ++ rest) text; size_is = size ∙ ap length text }

pub bytes_sized : (n : ℕ) (input : List ℕ) → n ≤ length input → IsTextSize (bytes_at n) (λ b. b) input n
bytes_sized n input fits = record {
  value = take n input;
  left = drop n input;
  read_is = grind (arith, nat_tests);
  cut = sym (take-append-drop n input);
  size_is = sym (length-take-le n input fits);
}

-- a memory argument that has no index, and so names memory 0
pub mem_arg_sized : (memory : Bool) (input : List ℕ) (a : ℕ) (rest : List ℕ) (size : ℕ) → memory ≡ true → input ≡ a ∷ rest → a < 64 → IsTextSize (number_at 64) number_text rest size → SizesMemArg memory input (Some (1 + size))
unfolding mem_arg_at
mem_arg_sized memory input a rest size may e small s =
    let test : nat_lt a 128 ≡ true = grind (arith, nat_tests) in
    let unnamed : nat_le 64 a ≡ false = grind (arith, nat_tests) in
    let align : a % 64 ≡ a = omega arith in
    let kept : where_at are_flags (number_at 32) (a ∷ rest) ≡ Some (a, rest) = bind_some (number_at 32 (a ∷ rest)) _ (a, rest) (number_last 32 a rest (omega arith) (omega arith)) ∙ rw test refl in (
      record {
        value = record { align = a; memory = 0; offset = s.value };
        left = s.left;
        read_is = rw e (bind_some (where_at are_flags (number_at 32) (a ∷ rest)) _ (a, rest) kept ∙ rw (unnamed, align) (bind_some (number_at 64 rest) _ (s.value, s.left) s.read_is));
        cut = rw (e, digits_last 9 a (omega arith)) (ap (λ (z : List ℕ). a ∷ z) s.cut);
        size_is = rw (digits_last 9 a (omega arith)) (let h = s.size_is in omega arith);
      },
      refl,
      may,
    )

-- the index of memory 0
pub memory_index_sized : (input left : List ℕ) → input ≡ 0 ∷ left → (s : IsTextSize (number_at 32) number_text input 1) × (s.value ≡ 0)
unfolding number_short
memory_index_sized input left e = (number_short 32 input 0 left (omega arith) e (omega arith), refl)

-- bits above are not all lost
pub shifted_out : (n k : ℕ) → not (nat_eq (n / 2 ^ k) 0) ≡ true → 2 ^ k ≤ n
shifted_out n k h = elim (cases_lt n (2 ^ k)) [ inl lt ↦ (let e : n / 2 ^ k ≡ 0 = div-eq_of_lt lt in let f : not (nat_eq 0 0) ≡ true = rw e at h in absurd cc) | inr le ↦ le ]
