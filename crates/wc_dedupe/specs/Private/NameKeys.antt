-- Keys of names: numbers that are made of their last bytes, each with the index of its name.
use Rattle.std.specs.Prelude.{◌≡◌, ℕ, ◌+◌, ◌*◌, ◌-◌, ◌%◌, ◌^◌, ◌<◌, List, [], ◌∷◌, length, drop, get_or, Some, slice_get}
use Rattle.std.specs.List.{Contains}
use Rattle.wc_dedupe.specs.Renaming.{ImportName}

-- a number that takes in bytes, one after another
abbrev pub number_from : ℕ → List ℕ → ℕ
number_from n [] = n
number_from n (b ∷ bs) = number_from (((n * 256) % 2 ^ 64 + b) % 2 ^ 64) bs

-- the last eight bytes of a text, or all of a shorter one, as a number
abbrev pub tail_number : List ℕ → ℕ
tail_number text = number_from 0 (drop (length text - 8) text)

-- the number of a name: that of its last bytes, and a multiple of that of its module's
abbrev pub name_key : ImportName → ℕ
name_key x = (tail_number x.name + (tail_number x.module_name * 11400714819323198485) % 2 ^ 64) % 2 ^ 64

-- a number and the index of a name
abbrev pub NameKey : Type 0
NameKey = ℕ × ℕ

-- the number is that of the name at the index
abbrev pub IsKeyOf : List ImportName → NameKey → Type 0
IsKeyOf names e = (x : ImportName) × (slice_get names e.1 ≡ Some x) × (e.0 ≡ name_key x)

-- the keys of the first k names
pub record AreKeys (names : List ImportName) (k : ℕ) (keys : List NameKey) : Type 0 where
  pub as_long : length keys ≡ k
  pub of : (e : NameKey) → Contains keys e → IsKeyOf names e
  pub all : (i : ℕ) → i < k → (e : NameKey) × Contains keys e × (e.1 ≡ i)

-- each number is below the next
abbrev pub Rise : List NameKey → Type 0
Rise keys = (k : ℕ) (d : NameKey) → k + 1 < length keys → (get_or keys k d).0 < (get_or keys (k + 1) d).0
