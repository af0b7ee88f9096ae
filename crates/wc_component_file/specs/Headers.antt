-- How the file of a component begins: `\0asm`, two bytes of a version, and the layer 1, which makes it a component.
use Rattle.std.specs.Prelude.{◌≡◌, ℕ, ◌+◌, ◌*◌, List, ◌∷◌}

-- a header with a version, of which the low byte comes first, and the bytes after it
pub record HasHeader (bytes : List ℕ) (version : ℕ) (rest : List ℕ) : Type 0 where
  pub low : ℕ
  pub high : ℕ
  pub cut : bytes ≡ 0x00 ∷ 0x61 ∷ 0x73 ∷ 0x6d ∷ low ∷ high ∷ 0x01 ∷ 0x00 ∷ rest
  pub has_version : version ≡ low + 256 * high

abbrev pub BeginsAsComponent : List ℕ → Type 0
BeginsAsComponent bytes = (version : ℕ) × (rest : List ℕ) × HasHeader bytes version rest
