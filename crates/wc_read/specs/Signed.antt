-- Signed numbers (WebAssembly core specification, 5.2.2 "Integers").
use Rattle.std.specs.Prelude.{ℕ, ◌+◌, ◌-◌, ◌*◌, ◌^◌, ◌<◌, ◌≤◌, List, [], ◌∷◌, ℤ, pos, negsuc}

-- p times a number, and d: of -1 - m that is -1 - (p - 1 - d + p * m)
abbrev pub above : ℕ → ℕ → ℤ → ℤ
above p d (pos n) = pos (d + p * n)
above p d (negsuc m) = negsuc (p - 1 - d + p * m)

-- so many bits hold the number, its sign among them
abbrev pub FitsBits : ℕ → ℤ → Type 0
FitsBits bits (pos n) = n < 2 ^ (bits - 1)
FitsBits bits (negsuc m) = m < 2 ^ (bits - 1)

-- a signed number of so many bits, the low seven first: a byte below 128 is the last one. It is at least 0 where that
-- byte is below 64, and else it is the byte less 128; it fits the bits that are left, so unused bits of the byte are as
-- the sign. Any other byte has seven bits, and more are left after it
pub data SpellsSigned : ℕ → List ℕ → ℤ → Type 0 where
  last_positive : {bits b : ℕ} → b < 64 → b < 2 ^ (bits - 1) → SpellsSigned bits (b ∷ []) (pos b)
  last_negative : {bits b : ℕ} → 64 ≤ b → b < 128 → 127 - b < 2 ^ (bits - 1) → SpellsSigned bits (b ∷ []) (negsuc (127 - b))
  more_signed : {bits b : ℕ} {high : ℤ} {bytes : List ℕ} → 7 < bits → 128 ≤ b → SpellsSigned (bits - 7) bytes high → SpellsSigned bits (b ∷ bytes) (above 128 (b - 128) high)
