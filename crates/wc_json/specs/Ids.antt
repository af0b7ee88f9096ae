-- How ids are read.
use Rattle.std.specs.Prelude.{ℕ, ◌^◌, List, [], ◌∷◌, Bool, true, false, cond, ◌&&◌, nat_lt, Ok}
use Rattle.std.specs.Char.{digit_value}
use Rattle.std.specs.Str.Parse.{digits_value, without_leading_plus}
use Rattle.json.specs.Json.{Json, number}
use Rattle.wc_json.specs.Fault.{Reading, refusal}
use Rattle.wc_json.specs.declared.fault.Problem.TheVariants.{NotAnIndex}

abbrev pub all_digits : List ℕ → Bool
all_digits [] = true
all_digits (c ∷ cs) = nat_lt (digit_value c) 10 && all_digits cs

-- one digit or more, and nothing else
abbrev pub is_numeral : List ℕ → Bool
is_numeral [] = false
is_numeral (c ∷ cs) = all_digits (c ∷ cs)

-- the index that decimal digits write, below 2^32
abbrev pub index_of_digits : List ℕ → Reading ℕ
index_of_digits digits =
    cond (is_numeral digits && nat_lt (digits_value 10 digits) (2 ^ 32)) (Ok (digits_value 10 digits)) (refusal NotAnIndex)

-- no number of JSON begins with a plus, or has a leading zero
abbrev pub index : Json → Reading ℕ
index (number s) = index_of_digits (without_leading_plus s)
index j = refusal NotAnIndex
