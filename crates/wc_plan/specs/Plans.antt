-- The plan of a component's world: what each imported function needs, in the order in which an encoder serves it.
use Rattle.std.specs.Prelude.{ℕ, ◌+◌, ◌==◌, List, [], ◌∷◌, Bool, true, false, ◌||◌, Option, Some, None, is_some, cond, if◌then◌else◌}
use Rattle.std.specs.Int.RustNames.{bit_and}
use Rattle.std.specs.Option.{option_map_or}
use Rattle.wc_validate.specs.Exports.Map.{ExportRecord, first_name, first_that, is_import_realloc, is_memory, own_or_general}
use Rattle.wc_validate.specs.Imports.Map.{memory_in}
use Rattle.wc_validate.specs.Validate.{ModuleRecord}
use Rattle.wc_world.specs.FunctionsLowered.{lowering_at}
use Rattle.wc_world.specs.Options.{realloc_flag}
use Rattle.wc_world.specs.Views.{ComponentWorldView, LoweringView, direct, indirect, resource_drop}
use Rattle.wc_plan.specs.Calls.{Wanted, wanted}
use Rattle.wc_plan.specs.Views.{CallView, UseView}

-- the lowering of a function
abbrev pub lowering_of : ComponentWorldView → CallView → Option LoweringView
lowering_of w c = lowering_at w.import_map c.interface c.name c.abi

-- the options of a lowering, as bits
abbrev pub options_of : LoweringView → ℕ
options_of (direct options) = options
options_of (indirect sig options) = options
options_of (resource_drop t) = 0

-- a lowering has the option of this flag
abbrev pub needs : ℕ → LoweringView → Bool
needs bit l = bit_and (options_of l) bit == bit

abbrev pub is_indirect : LoweringView → Bool
is_indirect (indirect sig options) = true
is_indirect l = false

abbrev pub is_lowered_indirect : ComponentWorldView → Wanted → Bool
is_lowered_indirect w x = option_map_or is_indirect (lowering_of w x.0) false

-- the realloc of a module for the results of imports
abbrev pub import_realloc : ExportRecord → Option (List ℕ)
import_realloc exports = own_or_general (first_name is_import_realloc exports) exports

abbrev pub realloc_of : ComponentWorldView → Wanted → Option (List ℕ)
realloc_of w x = cond (option_map_or (needs realloc_flag) (lowering_of w x.0) false) (import_realloc x.1) None

-- what a function needs, after so many that others stand in for
abbrev pub use_of : ComponentWorldView → ℕ → Wanted → UseView
use_of w slots x = record { call = x.0; slot = cond (is_lowered_indirect w x) (Some slots) None; realloc = realloc_of w x }

abbrev pub uses_from : ComponentWorldView → ℕ → List Wanted → List UseView
uses_from w slots [] = []
uses_from w slots (x ∷ xs) = use_of w slots x ∷ uses_from w (slots + (if is_lowered_indirect w x then 1 else 0)) xs

abbrev pub plan_of : ComponentWorldView → List UseView
plan_of w = uses_from w 0 (wanted w)

-- the main module imports its memory, or exports one
abbrev pub has_memory : ModuleRecord → Bool
has_memory main = is_some (memory_in main.imports) || is_some (first_that is_memory main.exports)
