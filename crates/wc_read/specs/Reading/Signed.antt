-- Signed numbers (5.2.2).
use Rattle.std.specs.Prelude.{ℕ, ◌-◌, ◌^◌, ℤ, pos, negsuc, nat_lt, if◌then◌else◌, Option, Some, None, [], ◌∷◌}
use Rattle.wc_read.specs.Options.{◌>>=◌}
use Rattle.wc_read.specs.Signed.{above}
use Rattle.wc_read.specs.Reading.Reader.{Read}

-- what a byte below 128 ends
abbrev pub last_of : ℕ → ℕ → Option ℤ
last_of bits b =
    if nat_lt b 64 then (if nat_lt b (2 ^ (bits - 1)) then Some (pos b) else None)
    else if nat_lt (127 - b) (2 ^ (bits - 1)) then Some (negsuc (127 - b)) else None

unfoldable pub signed_at : ℕ → Read ℤ
signed_at bits [] = None
signed_at bits (b ∷ bytes) =
    if nat_lt b 128 then last_of bits b >>= (λ z. Some (z, bytes))
    else if nat_lt 7 bits then signed_at (bits - 7) bytes >>= (λ high. Some (above 128 (b - 128) high.0, high.1)) else None
