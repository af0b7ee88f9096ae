-- The items of all parts in one row.
use Rattle.std.specs.Prelude.{◌≡◌, ℕ, ◌+◌, ◌-◌, ◌<◌, ◌≤◌, List, cond, length, nat_eq, Option, Some, None, slice_index_or}
use Rattle.std.specs.List.{slice_get}
use Rattle.std.specs.Option.{option_and_then}
use Rattle.wc_why.specs.Part.{PartView}
use Rattle.wc_why.specs.declared.numbers.Numbers.{Numbers}

-- the item of a number: its part, and its number there
abbrev pub place_in : List ℕ → List ℕ → ℕ → ℕ × ℕ
place_in starts owners x = (slice_index_or owners x 0, x - slice_index_or starts (slice_index_or owners x 0) 0)

abbrev pub place_of : Numbers → ℕ → ℕ × ℕ
place_of n x = place_in n.starts.items n.owners.items x

-- each number is that of an item, and each item has a number
pub record AreNumbersIn (parts : List PartView) (starts owners : List ℕ) : Type 0 where
  pub each : length starts ≡ length parts
  pub owned : (x : ℕ) → x < length owners → (part : PartView) × (slice_get parts (slice_index_or owners x 0) ≡ Some part)
      × (slice_index_or starts (slice_index_or owners x 0) 0 ≤ x) × (x < slice_index_or starts (slice_index_or owners x 0) 0 + part.size)
  pub there : (p : ℕ) (part : PartView) (n : ℕ) → slice_get parts p ≡ Some part → n < part.size → slice_get owners (slice_index_or starts p 0 + n) ≡ Some p

abbrev pub AreNumbers : List PartView → Numbers → Type 0
AreNumbers parts n = AreNumbersIn parts n.starts.items n.owners.items

-- the number of an item; none, where there is no such item
abbrev pub number_in : List ℕ → List ℕ → ℕ × ℕ → Option ℕ
number_in starts owners y =
    option_and_then (λ start. option_and_then (λ p. cond (nat_eq p y.0) (Some (start + y.1)) None) (slice_get owners (start + y.1))) (slice_get starts y.0)

abbrev pub number_of : Numbers → ℕ × ℕ → Option ℕ
number_of n y = number_in n.starts.items n.owners.items y

-- how many items there are
abbrev pub total : Numbers → ℕ
total n = length n.owners.items
