-- The binary format as an algebra of relations between exactly the bytes and a value
-- (WebAssembly core specification, 5.1 "Conventions" and 5.2 "Values"). Each form cuts the bytes by an equation.
use Rattle.std.specs.Prelude.{◌≡◌, ℕ, ◌+◌, ◌-◌, ◌*◌, ◌^◌, ◌<◌, ◌≤◌, List, [], ◌∷◌, ◌++◌, length, Option, Some, None, IsUtf8}

abbrev pub Format : Type 0 → Type 1
Format A = List ℕ → A → Type 0

-- an unsigned number of so many bits (5.2.2), the low seven first: a byte below 128 is the last one, and fits the bits
-- that are left; any other byte has seven bits, and more are left after it. So a number of n bits has ceil(n/7) bytes
-- at most, and unused bits of its last byte are zero
pub data SpellsNumber : ℕ → List ℕ → ℕ → Type 0 where
  last : {bits b : ℕ} → b < 128 → b < 2 ^ bits → SpellsNumber bits (b ∷ []) b
  more : {bits b high : ℕ} {bytes : List ℕ} → 7 < bits → 128 ≤ b → SpellsNumber (bits - 7) bytes high → SpellsNumber bits (b ∷ bytes) (b - 128 + 128 * high)

-- a thing, and after it another whose format may depend on it
abbrev pub Joined : {A B : Type 0} → Format A → (A → Format B) → Format B
Joined {A} Front Back bytes y = (x : A) × (a b : List ℕ) × (bytes ≡ a ++ b) × Front a x × Back x b y

-- a thing after a byte
abbrev pub Tagged : {A : Type 0} → ℕ → Format A → Format A
Tagged tag Spells bytes x = (a : List ℕ) × (bytes ≡ tag ∷ a) × Spells a x

-- a thing that may be left out
abbrev pub SpellsOptional : {A : Type 0} → Format A → Format (Option A)
SpellsOptional Spells bytes None = bytes ≡ []
SpellsOptional Spells bytes (Some x) = Spells bytes x

-- a name (5.2.4): its length, and text in UTF-8
abbrev pub SpellsName : Format (List ℕ)
SpellsName bytes name = (size : List ℕ) × (bytes ≡ size ++ name) × SpellsNumber 32 size (length name) × IsUtf8 name

-- a run of things, to the end of the bytes
abbrev pub SpellsItems : {A : Type 0} → Format A → Format (List A)
SpellsItems Spells bytes [] = bytes ≡ []
SpellsItems Spells bytes (x ∷ xs) = (a b : List ℕ) × (bytes ≡ a ++ b) × Spells a x × SpellsItems Spells b xs

-- a vector (5.1.3): how many, and the things
abbrev pub SpellsVector : {A : Type 0} → Format A → Format (List A)
SpellsVector Spells bytes xs = (count items : List ℕ) × (bytes ≡ count ++ items) × SpellsNumber 32 count (length xs) × SpellsItems Spells items xs

-- nothing of a format is before the bytes
abbrev pub HasNoPrefix : {A : Type 0} → Format A → List ℕ → Type 0
HasNoPrefix {A} Spells bytes = (text rest : List ℕ) (x : A) → bytes ≡ text ++ rest → Spells text x → ⊥
