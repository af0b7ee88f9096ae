-- What a search answers.
use Rattle.std.specs.Prelude.{Option, MatchOption}

-- what is found passes; None only where nothing passes
abbrev pub Finds : {X : Type 0} → Option X → (X → Type 0) → Type 0
Finds {X} found Passes = MatchOption found ((x : X) → ¬ Passes x) Passes
