-- Warnings: what a command gives that its component does not need.
use Rattle.std.specs.Prelude.{◌≡◌, ◌≢◌, ◌⊎◌, ℕ, ◌==◌, List, [], ◌++◌, length, codes, Option, Some, None, if◌then◌else◌}
use Rattle.std.specs.List.{flat_map, list_any}
use Rattle.std.specs.Str.{bytes_eq}
use Rattle.wc_texts.specs.Escape.{escaped}
use Rattle.wc_program.specs.Screen.{Printing, nothing, printed, failed}
use Rattle.wc_validate.specs.Exports.Map.{first_name, is_task_hook}
use Rattle.wc_world.specs.Views.{ComponentWorldView}
use Rattle.wcplan_inputs.specs.AdapterNames.{names_of}
use Rattle.wcplan_inputs.specs.Arguments.{CommandView}

-- a warning in a line
abbrev pub warning_line : List ℕ → List ℕ
warning_line text = codes "wcplan: warning: " ++ (escaped text ++ codes "\n")

abbrev pub nameless_text : List ℕ → List ℕ
nameless_text path = codes "the adapter of `" ++ (path ++ codes "` has no name")

abbrev pub left_out_text : List ℕ → List ℕ
left_out_text name =
    codes "adapter `" ++ (name ++ codes "` is left out: the main module imports nothing from it, and it has to export no function")

abbrev pub no_hook_text : List ℕ → List ℕ
no_hook_text name = codes "no export of the main module is the task hook `" ++ (name ++ codes "`")

-- of an adapter that is given by its name and its path: it has no name, or else the component has no adapter of its name
abbrev pub adapter_warning : List (List ℕ) → List ℕ × List ℕ → List ℕ
adapter_warning names a =
    if length a.0 == 0 then warning_line (nameless_text a.1)
    else if list_any (bytes_eq a.0) names then []
    else warning_line (left_out_text a.0)

abbrev pub adapter_warnings : List (List ℕ) → List (List ℕ × List ℕ) → List ℕ
adapter_warnings names given = flat_map (adapter_warning names) given

-- of a task hook that is named, where no export is the hook
abbrev pub hook_warning : Option (List ℕ) → Option (List ℕ) → List ℕ
hook_warning None export = []
hook_warning (Some name) (Some export) = []
hook_warning (Some name) None = warning_line (no_hook_text name)

-- of a command whose component's world this is: of its adapters in order, and then of its task hook
abbrev pub warnings_text : CommandView → ComponentWorldView → List ℕ
warnings_text c w = adapter_warnings (names_of w.adapters) c.adapters ++ hook_warning c.task_hook (first_name is_task_hook w.info.exports)

-- warnings are printed, if there are any; or the output fails
abbrev pub AreWarned : List ℕ → (Printing → Type 0) → Type 0
AreWarned warnings err =
    ((length warnings ≡ 0) × err nothing) ⊎ ((length warnings ≢ 0) × (err (printed warnings) ⊎ err failed))
