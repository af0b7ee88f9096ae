-- The names of exports that a call is passed.
use Rattle.std.specs.Prelude.{ℕ, suc, cond, List, [], ◌∷◌, map}
use Rattle.std.specs.Borrow.{Bor}
use Rattle.std.specs.Str.{bytes_eq}

-- the bytes of slices
abbrev pub texts : List (Bor (List ℕ)) → List (List ℕ)
texts slices = map (λ s. s.now) slices

-- the position of the first of the names that is this one; how many names there are where none is
abbrev pub position_of : List (List ℕ) → List ℕ → ℕ
position_of [] name = 0
position_of (n ∷ ns) name = cond (bytes_eq n name) 0 (suc (position_of ns name))
