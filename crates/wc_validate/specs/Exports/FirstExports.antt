-- What the first exports are looked up for, and the positions that are kept of them.
use Rattle.std.specs.Prelude.{◌≡◌, ℕ, List, Bool, false, ◌&&◌, Option, nat_eq, OnOk, Result}
use Rattle.std.specs.Map.{lookup}
use Rattle.std.specs.Str.{bytes_eq}
use Rattle.wc_resolve.specs.declared.ids.TypeId.{TypeId}
use Rattle.wc_resolve.specs.Views.{KeyView, key_view}
use Rattle.wc_names.specs.ExportViews.{ExportView, exported_func_callback, exported_func_post_return, exported_interface_func_callback, exported_interface_func_post_return, export_view}
use Rattle.wc_names.specs.Keys.{key_eq}
use Rattle.wc_validate.specs.declared.exports.map.Query.{Query}
use Rattle.wc_validate.specs.declared.exports.map.Query.TheVariants as query
use Rattle.wc_validate.specs.declared.exports.first_exports.FirstExports.{FirstExports}
use Rattle.wc_validate.specs.declared.exports.first_singles.FirstSingles.{FirstSingles}
use Rattle.wc_validate.specs.Exports.Map.{ExportRecord, is_adapter_realloc, is_destructor, is_export_realloc, is_function, is_function_table, is_import_realloc, is_initialize, is_memory, is_realloc, is_task_hook}
use Rattle.wc_validate.specs.FirstByKey.{position_called, under_key}
use Rattle.wc_validate.specs.FirstPositions.{earlier, first_position, kept_position}
use Rattle.wc_names.specs.declared.exports.Export.{Export}

-- kinds that are looked up by nothing more
pub data SingleKind : Type 0 where
  the_memory : SingleKind
  the_function_table : SingleKind
  the_task_hook : SingleKind
  the_initializer : SingleKind
  the_realloc : SingleKind
  the_export_realloc : SingleKind
  the_import_realloc : SingleKind
  the_adapter_realloc : SingleKind

abbrev pub is_of_kind : SingleKind → ExportView → Bool
is_of_kind the_memory = is_memory
is_of_kind the_function_table = is_function_table
is_of_kind the_task_hook = is_task_hook
is_of_kind the_initializer = is_initialize
is_of_kind the_realloc = is_realloc
is_of_kind the_export_realloc = is_export_realloc
is_of_kind the_import_realloc = is_import_realloc
is_of_kind the_adapter_realloc = is_adapter_realloc

-- the position that is kept of a kind
abbrev pub single_position : FirstSingles → SingleKind → Option ℕ
single_position first the_memory = first.memory
single_position first the_function_table = first.function_table
single_position first the_task_hook = first.task_hook
single_position first the_initializer = first.initialize
single_position first the_realloc = first.realloc
single_position first the_export_realloc = first.export_realloc
single_position first the_import_realloc = first.import_realloc
single_position first the_adapter_realloc = first.adapter_realloc

-- what an export is looked up for: a function under a key, of the world or of an interface; what runs after it and its
-- callback, of an interface's by its name too; the destructor of a type; a single kind
pub data Purpose : Type 0 where
  function_of : KeyView → List ℕ → Purpose
  interface_post_return : KeyView → List ℕ → Purpose
  interface_callback : KeyView → List ℕ → Purpose
  world_post_return : KeyView → Purpose
  world_callback : KeyView → Purpose
  destructor_of : ℕ → Purpose
  single : SingleKind → Purpose

abbrev pub is_interface_post_return : KeyView → List ℕ → ExportView → Bool
is_interface_post_return key name (exported_interface_func_post_return k n) = key_eq k key && bytes_eq name n
is_interface_post_return key name x = false

abbrev pub is_interface_callback : KeyView → List ℕ → ExportView → Bool
is_interface_callback key name (exported_interface_func_callback k n) = key_eq k key && bytes_eq name n
is_interface_callback key name x = false

abbrev pub is_world_post_return : KeyView → ExportView → Bool
is_world_post_return key (exported_func_post_return k) = key_eq k key
is_world_post_return key x = false

abbrev pub is_world_callback : KeyView → ExportView → Bool
is_world_callback key (exported_func_callback k) = key_eq k key
is_world_callback key x = false

abbrev pub serves : Purpose → ExportView → Bool
serves (function_of key name) = is_function key name
serves (interface_post_return key name) = is_interface_post_return key name
serves (interface_callback key name) = is_interface_callback key name
serves (world_post_return key) = is_world_post_return key
serves (world_callback key) = is_world_callback key
serves (destructor_of t) = is_destructor t
serves (single kind) = is_of_kind kind

-- the position that is kept of a type's destructor
abbrev pub type_position : List (TypeId × ℕ) → ℕ → Option ℕ
type_position entries t = lookup (λ (k : TypeId). nat_eq t k.0) entries

-- the position that is kept for a purpose
abbrev pub kept_for : FirstExports → Purpose → Option ℕ
kept_for first (function_of key name) = position_called first.functions key name
kept_for first (interface_post_return key name) = position_called first.post_returns key name
kept_for first (interface_callback key name) = position_called first.callbacks key name
kept_for first (world_post_return key) = under_key first.world_post_returns.entries key
kept_for first (world_callback key) = under_key first.world_callbacks.entries key
kept_for first (destructor_of t) = type_position first.destructors.entries t
kept_for first (single kind) = single_position first.singles kind

-- what is kept for each purpose is the position of the first export that serves it; nothing where none does
abbrev pub HasFirstPositions : FirstExports → ExportRecord → Type 0
HasFirstPositions first exports = (p : Purpose) → kept_for first p ≡ first_position (λ (e : List ℕ × ExportView). serves p e.1) exports

-- the position of what is looked up
abbrev pub position_in : FirstExports → Query → Option ℕ
position_in first (query.Function key name) = kept_for first (function_of (key_view key.now) name.now)
position_in first (query.PostReturn key name) = earlier (kept_for first (world_post_return (key_view key.now))) (kept_for first (interface_post_return (key_view key.now) name.now))
position_in first (query.Callback key name) = earlier (kept_for first (world_callback (key_view key.now))) (kept_for first (interface_callback (key_view key.now) name.now))
position_in first (query.Destructor id) = kept_for first (destructor_of id.0)
position_in first query.Memory = kept_for first (single the_memory)
position_in first query.FunctionTable = kept_for first (single the_function_table)
position_in first query.TaskHook = kept_for first (single the_task_hook)
position_in first query.Initialize = kept_for first (single the_initializer)
position_in first query.Realloc = kept_for first (single the_realloc)
position_in first query.ExportRealloc = kept_for first (single the_export_realloc)
position_in first query.ImportRealloc = kept_for first (single the_import_realloc)
position_in first query.AdapterRealloc = kept_for first (single the_adapter_realloc)

-- the position of an export was kept: of the destructor of a type, for each purpose that it serves, and as one of a single kind
abbrev pub IsDestructorKept : {T F : Type 0} → List (TypeId × ℕ) → List (TypeId × ℕ) → TypeId → ℕ → Result T F → Type 0
IsDestructorKept old new ty position result =
    OnOk result ((asked : ℕ) → type_position new asked ≡ kept_position (type_position old asked) (nat_eq ty.0 asked) position)

abbrev pub IsExportKept : {T F : Type 0} → FirstExports → FirstExports → Export → ℕ → Result T F → Type 0
IsExportKept old new export position result =
    OnOk result ((p : Purpose) → kept_for new p ≡ kept_position (kept_for old p) (serves p (export_view export)) position)

abbrev pub IsSingleKept : FirstSingles → FirstSingles → Export → ℕ → Type 0
IsSingleKept old new export position =
    (kind : SingleKind) → single_position new kind ≡ kept_position (single_position old kind) (is_of_kind kind (export_view export)) position
