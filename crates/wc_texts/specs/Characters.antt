-- ASCII characters of names, ids and versions.
use Rattle.std.specs.Prelude.{ℕ, ◌≤◌}

abbrev pub hash_sign : ℕ
hash_sign = 35

abbrev pub hyphen : ℕ
hyphen = 45

abbrev pub full_stop : ℕ
full_stop = 46

abbrev pub slash : ℕ
slash = 47

abbrev pub digit_zero : ℕ
digit_zero = 48

abbrev pub colon : ℕ
colon = 58

abbrev pub at_sign : ℕ
at_sign = 64

abbrev pub opening_bracket : ℕ
opening_bracket = 91

abbrev pub closing_bracket : ℕ
closing_bracket = 93

-- a to z
abbrev pub IsSmallLetter : ℕ → Type 0
IsSmallLetter c = (97 ≤ c) × (c ≤ 122)

-- A to Z
abbrev pub IsCapitalLetter : ℕ → Type 0
IsCapitalLetter c = (65 ≤ c) × (c ≤ 90)

-- 0 to 9
abbrev pub IsDigit : ℕ → Type 0
IsDigit c = (48 ≤ c) × (c ≤ 57)
