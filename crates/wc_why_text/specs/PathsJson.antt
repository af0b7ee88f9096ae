-- The paths of a module, each by its steps, as JSON.
use Rattle.std.specs.Prelude.{ℕ, List, [], ◌∷◌, ◌++◌, codes, map, reverse, true, Option}
use Rattle.std.specs.List.{flat_map, slice_get}
use Rattle.std.specs.Option.{option_map_or}
use Rattle.json.specs.Json.{Json, string}
use Rattle.wc_texts.specs.Shapes.{array_of, number_json, object_of}
use Rattle.wc_paths.specs.PathRoots.{RootView, by_export, by_start, by_table, by_memory}
use Rattle.wc_why.specs.Tree.{TreeItemView, TreeModuleView, TreeRootView, TreeView, TreeWayView, begun, exported, unfollowed}
use Rattle.wc_why_text.specs.JsonParts.{fills_json, kind_json, text_or_null}
use Rattle.wc_why_text.specs.Runs.{Place}
use Rattle.wc_why_text.specs.TreeJson.{index_of, only_members, space_word, unfollowed_json}
use Rattle.wc_why_text.specs.TreeLines.{root_at, way_path}
use Rattle.wc_why_text.specs.Ways.{chosen_ways}

-- where a path begins

abbrev pub export_step : Option (List ℕ) → List ℕ → Json
export_step adapter name =
    object_of ((codes "kind", string (codes "export")) ∷ (codes "adapter", text_or_null adapter) ∷ (codes "name", string name) ∷ [])

abbrev pub begin_step : Option (List ℕ) → RootView → Json
begin_step adapter (by_export name) = export_step adapter name
begin_step adapter by_start = kind_json (codes "start")
begin_step adapter (by_table index) = fills_json (codes "table") index
begin_step adapter (by_memory index) = fills_json (codes "memory") index

abbrev pub root_step : Option (List ℕ) → TreeRootView → Json
root_step adapter (begun root) = begin_step adapter root
root_step adapter (exported name main) = export_step adapter name
root_step adapter (unfollowed why) = unfollowed_json why

abbrev pub root_steps : Option (List ℕ) → Option TreeRootView → List Json
root_steps adapter root = option_map_or (λ r. root_step adapter r ∷ []) root []

-- an item, with its mark

abbrev pub item_step : TreeItemView → Json
item_step i =
    object_of (
    (codes "kind", string (codes "item")) ∷ (codes "space", string (space_word i.item)) ∷ (codes "index", number_json (index_of i.item))
    ∷ (codes "name", text_or_null i.name) ∷ only_members i.only
    )

abbrev pub item_steps : TreeModuleView → TreeItemView → List Json
item_steps m i = root_steps m.adapter (root_at m.roots i.root) ++ item_step i ∷ []

abbrev pub steps_at : List TreeModuleView → Place → List Json
steps_at modules p = option_map_or (λ m. option_map_or (item_steps m) (slice_get m.items p.1) []) (slice_get modules p.0) []

-- a path to an import: the interface, the name, and the steps from where it begins

abbrev pub steps_of : List TreeModuleView → List Place → List Json
steps_of modules path = flat_map (steps_at modules) path

abbrev pub path_json : List TreeModuleView → TreeWayView → Json
path_json modules w =
    object_of (
    (codes "interface", text_or_null w.interface) ∷ (codes "name", text_or_null w.name)
    ∷ (codes "steps", array_of (steps_of modules (reverse (way_path modules w)))) ∷ []
    )

abbrev pub paths_json : TreeView → Json
paths_json t = object_of ((codes "ways", array_of (map (path_json t.modules) (chosen_ways true t.ways))) ∷ [])
