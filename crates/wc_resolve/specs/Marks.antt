-- Marks of types: a truth value for each index, and none past the end.
use Rattle.std.specs.Prelude.{ℕ, ◌↔◌, Bool, false, IsTrue, List, Contains, slice_index_or}

abbrev pub is_marked : List Bool → ℕ → Bool
is_marked marks x = slice_index_or marks x false

-- these types are marked, and no others
abbrev pub AreMarks : List Bool → List ℕ → Type 0
AreMarks marks types = (x : ℕ) → IsTrue (is_marked marks x) ↔ Contains types x
