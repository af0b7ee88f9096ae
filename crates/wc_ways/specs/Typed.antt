-- The interfaces that a component imports for their types alone, each with what needs the type that is live first, and the item at which
-- the path to it ends.
use Rattle.std.specs.Prelude.{ℕ, zero, suc, ◌+◌, false, List, Option, Some, None}
use Rattle.std.specs.List.{filter_map, slice_get}
use Rattle.std.specs.Option.{option_and_then, option_map, option_map_or}
use Rattle.semver.specs.Identifiers.{parts_text}
use Rattle.wc_adapters.specs.Adapters.{LibraryView}
use Rattle.wc_why.specs.Tree.{TreeImportView}
use Rattle.wc_why.specs.declared.component.Target.{Target}
use Rattle.wc_import_paths.specs.MainModules.{MainView, code_of}
use Rattle.wc_import_paths.specs.Rows.{bare_graph}
use Rattle.wc_paths.specs.Items.{counts_of}
use Rattle.wc_read.specs.Modules.{ModuleValue}
use Rattle.wc_resolve.specs.Resolve.{key_text}
use Rattle.wc_world.specs.Views.{ComponentWorldView, ImportedView, NamedWorldAdapter}
use Rattle.wc_ways.specs.Found.{number_named}
use Rattle.wc_ways.specs.Parts.{counts_in, position_of}
use Rattle.wc_ways.specs.TypeRoots.{TypeRoot, of_import, of_item}
use Rattle.wc_ways.specs.Types.{TypeCite, cite, typed_name}
use Rattle.wc_ways.specs.Wanted.{EndView, TypedView, WantedView, no_target, nowhere, of_adapter, of_library, of_main, of_side, of_types}
use Rattle.wc_ways.specs.declared.needs.WorldSide.{WorldSide}

-- what the world has under a key with a text
abbrev pub item_end : WorldSide → Option (List ℕ) → EndView
item_end side text = option_map_or (of_side side) text nowhere

-- an import of the adapter, or the library, at a position
abbrev pub end_in : Option LibraryView → ℕ → TreeImportView → EndView
end_in None part i = of_adapter part i
end_in (Some l) part i = of_library part i

abbrev pub end_by : ComponentWorldView → TreeImportView → ℕ → EndView
end_by w i k = option_map_or (λ (y : NamedWorldAdapter). end_in y.1.library_info (k + 1) i) (slice_get w.adapters k) nowhere

-- an import of the main module, or of the adapter of a name
abbrev pub end_at : ComponentWorldView → Option (List ℕ) → TreeImportView → EndView
end_at w None i = of_main i
end_at w (Some name) i = option_map_or (end_by w i) (position_of w name) nowhere

-- a root of live types; or none
abbrev pub end_of_root : ComponentWorldView → TypeRoot → EndView
end_of_root w (of_import adapter from name) = end_at w adapter (record { from = from; name = name })
end_of_root w (of_item side key) = item_end side (key_text parts_text w.encoder.resolve key)

abbrev pub end_for : ComponentWorldView → Option TypeRoot → EndView
end_for w root = option_map_or (end_of_root w) root nowhere

abbrev pub typed_with : ComponentWorldView → List ℕ → TypeCite → TypedView
typed_with w interface c = record { interface = interface; ty = c.name; end = end_for w c.root }

-- the item at which it ends: an import of the main module, or of an adapter; one that isn't there, where it ends at none
abbrev pub type_target : ℕ → ℕ → Target
type_target part item = record { part = part; item = item; is_asked = false }

abbrev pub main_target : MainView → TreeImportView → Option Target
main_target main i = option_map (type_target 0) (number_named (counts_in main) (code_of main).imports i.from i.name)

abbrev pub target_in : ℕ → ModuleValue → TreeImportView → Option Target
target_in part m i = option_map (type_target part) (number_named (counts_of (bare_graph m)) m.imports i.from i.name)

abbrev pub adapter_target : List ModuleValue → ℕ → TreeImportView → Option Target
adapter_target modules zero i = None
adapter_target modules (suc k) i = option_and_then (λ (m : ModuleValue). target_in (suc k) m i) (slice_get modules k)

abbrev pub target_by : MainView → List ModuleValue → EndView → Option Target
target_by main modules nowhere = None
target_by main modules (of_side side name) = None
target_by main modules (of_main i) = main_target main i
target_by main modules (of_adapter part i) = adapter_target modules part i
target_by main modules (of_library part i) = None

abbrev pub target_of : MainView → List ModuleValue → EndView → Target
target_of main modules end = option_map_or (λ (t : Target). t) (target_by main modules end) no_target

-- such an interface that is asked about; and all of them, in the world's order
abbrev pub typed_wanted : MainView → List ModuleValue → TypedView → WantedView
typed_wanted main modules v = record { what = of_types v; target = target_of main modules v.end }

abbrev pub typed_of : ComponentWorldView → MainView → List ModuleValue → List ℕ × ℕ → WantedView
typed_of w main modules t = typed_wanted main modules (typed_with w t.0 (cite w t.1))

abbrev pub typed_if : ComponentWorldView → List ℕ → MainView → List ModuleValue → Option (List ℕ) × ImportedView → Option WantedView
typed_if w key main modules x = option_map (typed_of w main modules) (typed_name w key x)

abbrev pub typed_in : ComponentWorldView → List ℕ → MainView → List ModuleValue → List WantedView
typed_in w key main modules = filter_map (typed_if w key main modules) w.import_map
