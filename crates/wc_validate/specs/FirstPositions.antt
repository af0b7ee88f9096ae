-- Positions of first matches in a list.
use Rattle.std.specs.Prelude.{ℕ, suc, List, [], ◌∷◌, Bool, cond, Option, Some, None, min}
use Rattle.std.specs.Option.{option_map, option_or}

-- the position of the first that passes
abbrev pub first_position : {X : Type 0} → (X → Bool) → List X → Option ℕ
first_position test [] = None
first_position test (x ∷ xs) = cond (test x) (Some 0) (option_map suc (first_position test xs))

-- the position that is kept, after one that passes or not
abbrev pub kept_position : Option ℕ → Bool → ℕ → Option ℕ
kept_position kept passes position = option_or kept (cond passes (Some position) None)

-- the earlier of two positions, if there is one
abbrev pub earlier : Option ℕ → Option ℕ → Option ℕ
earlier None n = n
earlier (Some m) None = Some m
earlier (Some m) (Some n) = Some (min m n)
