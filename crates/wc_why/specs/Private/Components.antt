-- The graph of a component, as the code has it.
use Rattle.std.specs.Prelude.{ℕ, List, [], ◌∷◌, ◌++◌, map}
use Rattle.wc_why.specs.Part.{part_view}
use Rattle.wc_why.specs.Private.Graph.{AreLinked}
use Rattle.wc_why.specs.Private.Found.{IsFound}
use Rattle.wc_why.specs.Private.Numbers.{AreNumbers, place_of}
use Rattle.wc_why.specs.declared.found.Found.{Found}
use Rattle.wc_why.specs.declared.graph.ComponentGraph.{ComponentGraph}

-- its numbers and its links are those of its parts
pub record IsComponent (g : ComponentGraph) : Type 0 where
  pub numbered : AreNumbers (map part_view g.parts.now) g.numbers.now
  pub linked : AreLinked (map part_view g.parts.now) g.numbers.now g.links.now

-- what the roots of one more list reach was added
abbrev pub AddsList : ComponentGraph → List ℕ → Found → Found → Type 0
AddsList g roots old new =
    (lists : List (List (ℕ × ℕ))) → IsFound (map part_view g.parts.now) g.numbers.now lists old
    → IsFound (map part_view g.parts.now) g.numbers.now (lists ++ map (place_of g.numbers.now) roots ∷ []) new
