-- The first of a list of kinds that holds of anything, and what it holds of.
use Rattle.std.specs.Prelude.{List, [], ◌∷◌, ◌⊎◌}

-- the first kind that holds of anything holds of this
abbrev pub FirstOf : {K O : Type 0} → (K → O → Type 0) → List K → O → Type 0
FirstOf Holds [] o = ⊥
FirstOf {K} {O} Holds (k ∷ ks) o = Holds k o ⊎ (((p : O) → ¬ Holds k p) × FirstOf Holds ks o)
