-- The exports that are kept, and those that are missing.
use Rattle.std.specs.Prelude.{◌≡◌, ◌⊎◌, ℕ, List, map, fold, Bool, not, filter, Option, Some, String, string_bytes}
use Rattle.std.specs.List.{list_any, find, All}
use Rattle.std.specs.Str.{bytes_eq}
use Rattle.std.specs.Borrow.{Bor}
use Rattle.std.specs.declared.alloc.Global.{Global}
use Rattle.indexmap.specs.IndexMap.{swap_remove_by}
use Rattle.wc_read.specs.Exports.{ExportValue, export_value}
use Rattle.wc_read.specs.declared.exports.Export.{Export}
use Rattle.wc_gc.specs.declared.fault.GcFault.{GcFault}
use Rattle.wc_gc.specs.declared.fault.GcFault.TheVariants.{Memory, MissingExport}

abbrev pub export_names : List ExportValue → List (List ℕ)
export_names exports = map (λ e. e.name) exports

abbrev pub is_required : List (List ℕ) → List ℕ → Bool
is_required required name = list_any (bytes_eq name) required

-- without the export of this name: the last export takes its index
abbrev pub without : List ExportValue → List ℕ → List ExportValue
without exports name = swap_remove_by (λ e. bytes_eq name e.name) exports

-- the names that are not required, in order
abbrev pub dropped_names : List (List ℕ) → List ExportValue → List (List ℕ)
dropped_names required exports = filter (λ name. not (is_required required name)) (export_names exports)

-- the exports that are left where each one that is not required is taken out, in their original order
abbrev pub kept_exports : List (List ℕ) → List ExportValue → List ExportValue
kept_exports required exports = fold without exports (dropped_names required exports)

abbrev pub is_exported : List ExportValue → List ℕ → Bool
is_exported exports name = list_any (bytes_eq name) (export_names exports)

-- the first of these names that is not exported
abbrev pub missing_name : List ExportValue → List (List ℕ) → Option (List ℕ)
missing_name exports names = find (λ name. not (is_exported exports name)) names

-- the first of these names that is not exported is missing, or memory ran out
abbrev pub IsMissingFault : List ExportValue → List (List ℕ) → GcFault → Type 0
IsMissingFault exports names f =
    (f ≡ Memory) ⊎ (name : String Global) × (f ≡ MissingExport name) × (missing_name exports names ≡ Some (string_bytes name))

-- exports under their names

abbrev pub export_entries : List (Bor (List ℕ) × Export) → List ExportValue
export_entries es = map (λ e. export_value e.1) es

abbrev pub by_name : Export → Bor (List ℕ) × Export
by_name e = (e.name, e)

abbrev pub AreNamed : List (Bor (List ℕ) × Export) → Type 0
AreNamed es = All (λ e. e.0.now ≡ e.1.name.now) es
