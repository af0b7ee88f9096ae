-- Paths in a module from two lists of roots: the second list counts only where no path leads from the first.
use Rattle.std.specs.Prelude.{◌≡◌, List, true, false, ◌⊎◌, ⊤}
use Rattle.wc_read.specs.Modules.{module_value}
use Rattle.wc_read.specs.declared.core_module.Module.{Module}
use Rattle.wc_read.specs.declared.operators.Space.TheVariants.{Funcs}
use Rattle.wc_graph.specs.Reached.{IsReachedFrom}
use Rattle.wc_segments.specs.Segments.{segments_value}
use Rattle.wc_segments.specs.declared.segments.Segments.{Segments}
use Rattle.wc_paths.specs.Items.{GraphValue, graph_of, is_closed, names_in}
use Rattle.wc_paths.specs.Numbers.{present}
use Rattle.wc_paths.specs.declared.items.PathItem.{PathItem}
use Rattle.wc_paths.specs.declared.items.PathItem.TheVariants.{Item}
use Rattle.wc_paths.specs.declared.paths.PathFault.{PathFault}
use Rattle.wc_paths.specs.declared.paths.PathFault.TheVariants.{Memory, LiveBody}

-- a path leads to an item from one of these roots; a root that is not there leads nowhere
abbrev pub IsReachedIn : GraphValue → List PathItem → PathItem → Type 0
IsReachedIn g roots x = IsReachedFrom (names_in g) (present g roots) x

-- memory ran out, or a function is reached that is not closed
abbrev pub IsFaultFrom : GraphValue → (PathItem → Type 0) → PathFault → Type 0
IsFaultFrom g is_reached Memory = ⊤
IsFaultFrom g is_reached (LiveBody n) = is_reached (Item Funcs n) × (is_closed g (Item Funcs n) ≡ false)

-- a path leads to an item from a root of either list
abbrev pub IsReachedInAny : GraphValue → List PathItem → List PathItem → PathItem → Type 0
IsReachedInAny g first second x = IsReachedIn g first x ⊎ IsReachedIn g second x

abbrev pub IsPathFault : GraphValue → List PathItem → List PathItem → PathFault → Type 0
IsPathFault g first second fault = IsFaultFrom g (IsReachedInAny g first second) fault

-- all that is reached is closed
abbrev pub AreClosed : GraphValue → (PathItem → Type 0) → Type 0
AreClosed g is_reached = (x : PathItem) → is_reached x → is_closed g x ≡ true

-- a module that was read, with its segments
abbrev pub graph_in : Module → Segments → GraphValue
graph_in m s = graph_of (module_value m) (segments_value s)
