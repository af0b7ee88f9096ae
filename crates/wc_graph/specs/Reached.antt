-- The things to which paths lead from roots.
use Rattle.std.specs.Prelude.{◌≡◌, List, [], ◌∷◌, Contains}

-- a path from a thing over others to the last of them, each named by the one before
abbrev pub IsPath : {X : Type 0} → (X → List X) → X → List X → X → Type 0
IsPath names x [] y = x ≡ y
IsPath names x (z ∷ zs) y = Contains (names x) z × IsPath names z zs y

-- a thing to which a path leads from one of the roots
abbrev pub IsReachedFrom : {X : Type 0} → (X → List X) → List X → X → Type 0
IsReachedFrom {X} names roots y = (x : X) × Contains roots x × (path : List X) × IsPath names x path y
