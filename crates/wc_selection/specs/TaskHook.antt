-- The name that an encoder is given where there is no task hook.
use Rattle.std.specs.Prelude.{◌≡◌, ℕ, List, [], Option}
use Rattle.wc_read.specs.Types.{FuncTypeValue}
use Rattle.wc_resolve.specs.Views.{KeyView}
use Rattle.wc_names.specs.Exports.{ClassifiedExport, CoreExport, is_export}
use Rattle.wc_names.specs.ExportViews.{wasm_task_hook}
use Rattle.wc_names.specs.Imports.{NameScope}
use Rattle.wc_names.specs.Mangling.{initialize_name, legacy}

-- the name of the initialiser
abbrev pub no_task_hook : List ℕ
no_task_hook = initialize_name (legacy [])

-- where the task hook has this name, no export means the task hook, of whatever type
abbrev pub NoExportIsHook : Type 0
NoExportIsHook =
    (e : NameScope) (keys : List KeyView) (x : CoreExport) (ty : Option FuncTypeValue) → e.hook ≡ no_task_hook
    → ¬ ClassifiedExport e keys x (is_export wasm_task_hook ty)
