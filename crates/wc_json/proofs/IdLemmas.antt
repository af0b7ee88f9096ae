-- Numbers of JSON as indices.
use Rattle.std.proofs.Common.{◌≡◌, ℕ, ◌<◌, ◌≤◌, ◌^◌, List, [], ◌∷◌, Bool, true, false, cond, ◌&&◌, nat_lt, Option, Some, None, Ok, refl, arith, MatchOption}
use Rattle.std.specs.Char.{digit_value}
use Rattle.std.specs.Option.{ok_or}
use Rattle.std.specs.Str.Parse.{AllDigits, IsNumeral, ParsesUnsigned, digits_value, without_leading_plus}
use Rattle.std.proofs.lemmas.Bool.{ltb-true, lt-ltb, and_parts}
use Rattle.json.specs.Json.{Json, null, boolean, number, string, array, object}
use Rattle.json.specs.Find.{as_number}
use Rattle.wc_json.specs.Fault.{Reading, refusal}
use Rattle.wc_json.specs.Ids.{all_digits, index, index_of_digits, is_numeral}
use Rattle.wc_json.specs.declared.fault.Problem.TheVariants.{NotAnIndex}

pub cond-not_true : {A : Type 0} (b : Bool) (x y : A) → (b ≡ true → ⊥) → cond b x y ≡ y
cond-not_true true x y h = absurd (h refl)
cond-not_true false x y h = refl

all_digits-AllDigits : (ds : List ℕ) → AllDigits 10 ds → all_digits ds ≡ true
all_digits-AllDigits [] h = refl
all_digits-AllDigits (c ∷ cs) h = rw (lt-ltb (digit_value c) 10 h.0) (all_digits-AllDigits cs h.1)

AllDigits_all_digits : (ds : List ℕ) → all_digits ds ≡ true → AllDigits 10 ds
AllDigits_all_digits [] h = tt
AllDigits_all_digits (c ∷ cs) h = let p = and_parts (nat_lt (digit_value c) 10) (all_digits cs) h in
    (ltb-true (digit_value c) 10 p.0, AllDigits_all_digits cs p.1)

pub is_numeral-IsNumeral : (ds : List ℕ) → IsNumeral 10 ds → is_numeral ds ≡ true
is_numeral-IsNumeral [] h = absurd (omega (arith, h.0))
is_numeral-IsNumeral (c ∷ cs) h = all_digits-AllDigits (c ∷ cs) h.1

IsNumeral_is_numeral : (ds : List ℕ) → is_numeral ds ≡ true → IsNumeral 10 ds
IsNumeral_is_numeral [] h = let bad : ⊥ = cc h in absurd bad
IsNumeral_is_numeral (c ∷ cs) h = (omega arith, AllDigits_all_digits (c ∷ cs) h)

-- digits that are no number below a bound of at least 2^32 are no index
pub index_of_digits-refused : (ds : List ℕ) (bound : ℕ) → 2 ^ 32 ≤ bound → (IsNumeral 10 ds × (digits_value 10 ds < bound) → ⊥)
    → index_of_digits ds ≡ refusal NotAnIndex
index_of_digits-refused ds bound large h =
    cond-not_true (is_numeral ds && nat_lt (digits_value 10 ds) (2 ^ 32)) (Ok (digits_value 10 ds)) (refusal NotAnIndex)
    (λ t. let p = and_parts (is_numeral ds) (nat_lt (digits_value 10 ds) (2 ^ 32)) t in
    let below : digits_value 10 ds < 2 ^ 32 = ltb-true (digits_value 10 ds) (2 ^ 32) p.1 in
    h (IsNumeral_is_numeral ds p.0, omega (arith, below, large)))

-- a number of 64 bits as an index
abbrev pub index_of_u64 : Option ℕ → Reading ℕ
index_of_u64 None = refusal NotAnIndex
index_of_u64 (Some n) = cond (nat_lt n (2 ^ 32)) (Ok n) (refusal NotAnIndex)

index_of_digits-ParsesUnsigned : (s : List ℕ) (r : Option ℕ) → ParsesUnsigned 64 10 s (ok_or r s) → index_of_digits (without_leading_plus s) ≡ index_of_u64 r
index_of_digits-ParsesUnsigned s None h = index_of_digits-refused (without_leading_plus s) (2 ^ 64) (omega arith) h
index_of_digits-ParsesUnsigned s (Some n) h = rw (is_numeral-IsNumeral (without_leading_plus s) h.0.0, h.1) refl

-- an index is what `as_u64` finds, below 2^32
pub index-as_u64 : (j : Json) (r : Option ℕ) → MatchOption (as_number j) (r ≡ None) (λ s. ParsesUnsigned 64 10 s (ok_or r s)) → index j ≡ index_of_u64 r
index-as_u64 null r h = rw h refl
index-as_u64 (boolean b) r h = rw h refl
index-as_u64 (number s) r h = index_of_digits-ParsesUnsigned s r h
index-as_u64 (string s) r h = rw h refl
index-as_u64 (array js) r h = rw h refl
index-as_u64 (object ms) r h = rw h refl
