-- What contracts see of an encoder: bytes and texts as lists of numbers; lists, sets and maps as lists in order.
use Rattle.std.specs.Prelude.{◌≡◌, ℕ, ◌<◌, Bool, List, [], map, length, Option, Some, None, slice_get, string_bytes, Vec}
use Rattle.std.specs.Option.{option_map_or}
use Rattle.std.specs.declared.alloc.Global.{Global}
use Rattle.wc_dedupe.specs.Renaming.{RenameView}
use Rattle.wc_resolve.specs.Views.{KeyView, key_view, WorldView}
use Rattle.wc_resolve.specs.Kinds.{ResolveView}
use Rattle.wc_encoder.specs.declared.encoder_parts.EncoderParts.{EncoderParts}
use Rattle.wc_adapters.specs.Adapters.{AdapterView, adapter_entry}
use Rattle.wc_adapters.specs.Entries.{Entries}

-- the main module's bytes, the bytes as which it was given before its imports were renamed, and the original names of these; a
-- `Resolve`, and the index of a world in it; the keys of the main module's exports; adapters by their names; two flags; and the
-- name of the task hook
pub record EncoderView : Type 0 where
  pub module_bytes : List ℕ
  pub given_bytes : List ℕ
  pub module_import_map : Option (List RenameView)
  pub resolve : ResolveView
  pub world : ℕ
  pub main_module_exports : List KeyView
  pub adapters : List (List ℕ × AdapterView)
  pub reject_legacy_names : Bool
  pub realloc_via_memory_grow : Bool
  pub task_hook : List ℕ

-- the bytes as which a module was given: its own, where none of its imports was renamed
abbrev pub given_in : Option (Vec ℕ Global) → List ℕ → List ℕ
given_in given bytes = option_map_or (λ (v : Vec ℕ Global). v.items) given bytes

-- an encoder of these parts, of a main module that was given so
abbrev pub given_view : Option (Vec ℕ Global) → EncoderParts → EncoderView
given_view given p = record {
  module_bytes = p.module.items;
  given_bytes = given_in given p.module.items;
  module_import_map = p.module_import_map;
  resolve = p.metadata.resolve;
  world = p.metadata.world.0;
  main_module_exports = map key_view p.main_module_exports.keys;
  adapters = map adapter_entry p.adapters.entries;
  reject_legacy_names = p.reject_legacy_names;
  realloc_via_memory_grow = p.realloc_via_memory_grow;
  task_hook = string_bytes p.task_hook;
}

abbrev pub parts_view : EncoderParts → EncoderView
parts_view p = given_view None p

-- there is a world at the encoder's index
abbrev pub HasWorld : EncoderView → Type 0
HasWorld e = e.world < length e.resolve.worlds

-- the world is the one that modules are encoded for
abbrev pub IsWorldOf : EncoderView → WorldView → Type 0
IsWorldOf e w = slice_get e.resolve.worlds e.world ≡ Some w

-- what the world of an encoder imports and exports; [] where there is no world
abbrev pub world_imports : EncoderView → Entries
world_imports e = option_map_or (λ (w : WorldView). w.imports) (slice_get e.resolve.worlds e.world) []

abbrev pub world_exports : EncoderView → Entries
world_exports e = option_map_or (λ (w : WorldView). w.exports) (slice_get e.resolve.worlds e.world) []
