-- Lists under texts. No contract of a public function cites these.
use Rattle.std.specs.Prelude.{◌≡◌, ℕ, List, [], ◌∷◌, ◌++◌, cond}
use Rattle.std.specs.Borrow.{Bor}
use Rattle.std.specs.Map.{lookup}
use Rattle.std.specs.Option.{option_map_or}
use Rattle.std.specs.Str.{bytes_eq}
use Rattle.std.specs.declared.alloc.Global.{Global}
use Rattle.std.specs.declared.vec.Vec.{Vec}

-- what is listed under a text
abbrev pub listed : {X : Type 0} → List (Bor (List ℕ) × Vec X Global) → List ℕ → List X
listed {X} entries text = option_map_or (λ (v : Vec X Global). v.items) (lookup (λ (k : Bor (List ℕ)). bytes_eq text k.now) entries) []

-- under each text is listed what was, and after that this value under its own text
abbrev pub ListsMore : {X : Type 0} → List (Bor (List ℕ) × Vec X Global) → List (Bor (List ℕ) × Vec X Global) → List ℕ → X → Type 0
ListsMore old new text value = (q : List ℕ) → listed new q ≡ listed old q ++ cond (bytes_eq q text) (value ∷ []) []
