-- Entries in the order of insertion, and the positions of their keys.
use Rattle.std.specs.Prelude.{◌≡◌, ℕ, suc, Bool, cond, List, [], ◌∷◌, Option, Some, None}
use Rattle.std.specs.declared.cmp.Ordering.{Ordering}
use Rattle.std.specs.Option.{option_map}
use Rattle.std.specs.BTreeMap.{BTreeMap, get}

-- the position of the first entry whose key passes the test
abbrev pub first_position : {K V : Type 0} → (K → Bool) → List (K × V) → Option ℕ
first_position t [] = None
first_position t (e ∷ es) = cond (t e.0) (Some 0) (option_map suc (first_position t es))

-- each key has the position of its first entry, and no other key has a position
abbrev pub ArePositions : {K V : Type 0} → (K → K → Bool) → (K → K → Ordering) → BTreeMap K ℕ → List (K × V) → Type 0
ArePositions {K} eq cmp positions es = (q : K) → get cmp positions q ≡ first_position (eq q) es
