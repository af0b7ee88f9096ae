-- The paths to targets by numbers.
use Rattle.std.specs.Prelude.{ℕ, List, map, Option, slice_index_or}
use Rattle.std.specs.Option.{option_and_then}
use Rattle.wc_graph.specs.Private.Places.{place_at}
use Rattle.wc_why.specs.Component.{target_item}
use Rattle.wc_why.specs.Graph.{names_in}
use Rattle.wc_why.specs.Part.{PartView}
use Rattle.wc_why.specs.Paths.{ArePaths}
use Rattle.wc_why.specs.Private.Found.{IsFound}
use Rattle.wc_why.specs.Private.Numbers.{number_of, place_of}
use Rattle.wc_why.specs.declared.component.Target.{Target}
use Rattle.wc_why.specs.declared.found.Found.{Found}
use Rattle.wc_why.specs.declared.numbers.Numbers.{Numbers}
use Rattle.wc_why.specs.declared.path_tree.PathTree.{PathTree}

-- the position of a target among what was found
abbrev pub position_of : Numbers → List (Option ℕ) → Target → Option ℕ
position_of n places t = option_and_then (place_at places) (number_of n (target_item t))

-- the item at a position of what was found
abbrev pub item_in : Numbers → List ℕ → ℕ → ℕ × ℕ
item_in n order k = place_of n (slice_index_or order k 0)

-- from whatever lists this was found
abbrev pub IsPathTree : List PartView → Numbers → Found → List Target → PathTree → Type 0
IsPathTree parts n f targets t =
    (lists : List (List (ℕ × ℕ))) → IsFound parts n lists f → ArePaths (names_in parts) lists (map target_item targets) t.items.items t.from.items t.ends.items
