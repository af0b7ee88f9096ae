-- What holds of the formats as such.
use Rattle.std.specs.Prelude.{◌≡◌, ℕ, List, ◌++◌}
use Rattle.wc_read.specs.Formats.{Format}

-- bytes spell one value at most
abbrev pub HasOneValue : {A : Type 0} → Format A → Type 0
HasOneValue {A} Spells = (bytes : List ℕ) (x y : A) → Spells bytes x → Spells bytes y → x ≡ y

-- no spelling begins another: two spellings before the same bytes are of one value, and leave the same. So bytes
-- spell one value at most
abbrev pub IsPrefixFree : {A : Type 0} → Format A → Type 0
IsPrefixFree {A} Spells =
    (a b rest others : List ℕ) (x y : A) →
    a ++ rest ≡ b ++ others → Spells a x → Spells b y → (x ≡ y) × (rest ≡ others)
