-- The paths to what a component imports, from its main module and through its adapters, as one tree; and its JSON and its graph.
use Rattle.std.specs.Prelude.{◌≡◌, ℕ, Bool, List, ◌++◌, codes, length, map, not, Option}
use Rattle.std.specs.List.{filter_map, range_with_len, slice_get}
use Rattle.std.specs.Option.{option_and_then, option_flatten}
use Rattle.std.specs.Str.{bytes_eq}
use Rattle.json.specs.Lex.{tokens}
use Rattle.json.specs.Print.{print}
use Rattle.json.specs.Tree.{json_tokens}
use Rattle.wc_why.specs.Component.{IsComponentTree}
use Rattle.wc_why.specs.Part.{PartView}
use Rattle.wc_why.specs.Tree.{TreeView, TreeWayView, tree_module_view}
use Rattle.wc_why.specs.declared.component.ComponentTree.{ComponentTree}
use Rattle.wc_why.specs.declared.component.End.{End}
use Rattle.wc_why.specs.declared.component.Target.{Target}
use Rattle.wc_import_paths.specs.MainModules.{MainView}
use Rattle.wc_read.specs.Modules.{ModuleValue}
use Rattle.wc_why_text.specs.TreeGraph.{tree_graph}
use Rattle.wc_why_text.specs.TreeJson.{tree_json}
use Rattle.wc_world.specs.Views.{ComponentWorldView}
use Rattle.wc_ways.specs.Found.{found_in}
use Rattle.wc_ways.specs.Parts.{AreParts}
use Rattle.wc_ways.specs.Typed.{typed_in}
use Rattle.wc_ways.specs.Wanted.{WantedView, way_of}

-- what is asked about: imports of modules, and then interfaces that are imported for their types alone
abbrev pub wanted_in : ComponentWorldView → List ℕ → MainView → List ModuleValue → List WantedView
wanted_in w key main modules = found_in w key main modules ++ typed_in w key main modules

abbrev pub targets_of : List WantedView → List Target
targets_of wanted = map (λ (v : WantedView). v.target) wanted

-- the paths to it, by where they end
abbrev pub end_at : List (Option End) → ℕ → Option End
end_at ends k = option_flatten (slice_get ends k)

abbrev pub way_at : List WantedView → List (Option End) → ℕ → Option TreeWayView
way_at wanted ends k = option_and_then (λ (v : WantedView). way_of v (end_at ends k)) (slice_get wanted k)

abbrev pub ways_of : List WantedView → List (Option End) → List TreeWayView
ways_of wanted ends = filter_map (way_at wanted ends) (range_with_len 0 (length wanted))

-- all is asked about: then there are no marks
abbrev pub is_all : List ℕ → Bool
is_all key = bytes_eq key (codes "all")

-- the tree of the paths through all modules to what is asked about
pub record IsTreeTo (parts : List PartView) (wanted : List WantedView) (marked : Bool) (t : TreeView) : Type 0 where
  pub found : ComponentTree
  pub is_found : IsComponentTree parts (targets_of wanted) marked found
  pub modules : t.modules ≡ map tree_module_view found.modules.items
  pub ways : t.ways ≡ ways_of wanted found.ends.items

pub record IsWaysTree (w : ComponentWorldView) (key : List ℕ) (t : TreeView) : Type 0 where
  pub main : MainView
  pub modules : List ModuleValue
  pub parts : List PartView
  pub are_parts : AreParts w main modules parts
  pub is_tree : IsTreeTo parts (wanted_in w key main modules) (not (is_all key)) t

-- the text of its JSON, without spaces and with the shortest escapes, in a line: it is read back as this JSON
abbrev pub IsWaysJson : ComponentWorldView → List ℕ → List ℕ → Type 0
IsWaysJson w key text =
    (t : TreeView) × IsWaysTree w key t × (text ≡ print (json_tokens (tree_json t)) ++ codes "\n")
    × (tokens (print (json_tokens (tree_json t))) ≡ json_tokens (tree_json t))

-- its graph
abbrev pub IsWaysGraph : ComponentWorldView → List ℕ → List ℕ → Type 0
IsWaysGraph w key text = (t : TreeView) × IsWaysTree w key t × (text ≡ tree_graph t)
