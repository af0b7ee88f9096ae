-- What is noted of the main module.
use Rattle.std.specs.Prelude.{◌≡◌, ℕ, List, []}
use Rattle.wc_import_paths.specs.MainModules.{IsMain, MainView}
use Rattle.wc_summary.specs.Entries.{EntriesView, Lists, no_parts, parts_of, with_main}
use Rattle.wc_summary.specs.Summary.{MainPartView}
use Rattle.wc_world.specs.Views.{ComponentWorldView}
use Rattle.wc_ways.specs.Imports.{AreMainInterfaces, IsMainPart}

-- what this main module imports is noted, of interfaces of which nothing was
pub record NotesMainOf (w : ComponentWorldView) (module_view : MainView) (old new : EntriesView) : Type 0 where
  pub found : List (List ℕ)
  pub are_found : AreMainInterfaces w module_view found
  pub listed : Lists old new found
  pub each : (interface : List ℕ) → (main : MainPartView) × IsMainPart w module_view interface main × (parts_of old interface ≡ no_parts → parts_of new interface ≡ with_main main no_parts)

-- what the world's main module imports is
pub record NotesMain (w : ComponentWorldView) (old new : EntriesView) : Type 0 where
  pub module_view : MainView
  pub is_module : IsMain w.encoder.module_bytes [] module_view
  pub notes : NotesMainOf w module_view old new
