-- What is said of things in a row, whatever that is: lists of parts.
use Rattle.std.specs.Prelude.{◌≡◌, List, [], ◌∷◌, ◌++◌}

-- parts are said of things in a row, of each as `Is` says
abbrev pub AreEach : {X A : Type 0} → (X → List A → Type 0) → List X → List A → Type 0
AreEach {X} {A} Is [] parts = parts ≡ []
AreEach {X} {A} Is (x ∷ xs) parts = (first rest : List A) × Is x first × AreEach Is xs rest × (parts ≡ first ++ rest)
