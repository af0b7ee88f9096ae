-- A name is required of each adapter that is trimmed.
use Rattle.std.proofs.Common.{◌≡◌, ◌≢◌, ℕ, List, [], ◌∷◌, ◌++◌, Bool, true, false, Option, Some, None, is_some, All, map, refl, ap, subst}
use Rattle.std.specs.Prelude.{◌||◌, Contains}
use Rattle.std.specs.List.{cons_option, list_any}
use Rattle.std.specs.Option.{option_and_then, option_map_or}
use Rattle.std.proofs.lemmas.List.Elements.{All-head}
use Rattle.wc_read.specs.Types.{FuncTypeValue}
use Rattle.wc_resolve.specs.Views.{FunctionView, ItemView, KeyView, WorldView, function_item, interface_item, type_item}
use Rattle.wc_resolve.specs.Kinds.{ResolveView}
use Rattle.wc_maps.proofs.ListLemmas.{contains_none}
use Rattle.wc_encoder.specs.EncoderParts.{EncoderView, world_exports}
use Rattle.wc_adapters.specs.Entries.{Entries}
use Rattle.wc_names.specs.Exports.{CoreExport}
use Rattle.wc_names.specs.ExportViews.{ExportView}
use Rattle.wc_names.specs.Imports.{NameScope}
use Rattle.wc_names.specs.Keys.{item_under}
use Rattle.wc_texts.specs.Names.{first_occurrences}
use Rattle.wc_validate.specs.Exports.Map.{ExportRecord}
use Rattle.wc_validate.specs.Imports.Map.{required_in}
use Rattle.wc_validate.specs.Exports.Record.{core_exports}
use Rattle.wc_validate.specs.Requirements.{AreMet, Requirement, function_names, functions_of, item_requirement, key_requirements, type_requirement}
use Rattle.wc_validate.specs.Validate.{IsRecordOf, ModuleRecord}
use Rattle.wc_world.specs.Trimming.{NamedAdapter, exports_function, has_function, is_adapter_needed, is_some_of, validation_input_of, required_names}

-- a function that is recorded is an export
recorded_has : (recorded : ExportRecord) (name : Option ℕ × List ℕ) → Contains (function_names recorded) name → recorded ≢ []
recorded_has recorded name has is = contains_none name (subst (λ z. Contains (function_names z) name) is has)

interface_has : (recorded : ExportRecord) (i : ℕ) (functions : List (List ℕ × FunctionView)) (others : Bool) → All (λ (f : List ℕ × FunctionView). Contains (function_names recorded) (Some i, f.0)) functions
    → (is_some_of functions || others) ≡ true → (others ≡ true → recorded ≢ []) → recorded ≢ []
interface_has recorded i [] others all any later = later any
interface_has recorded i (f ∷ functions) others all any later =
    recorded_has recorded (Some i, f.0) (All-head (λ (g : List ℕ × FunctionView). Contains (function_names recorded) (Some i, g.0)) f functions all)

module _ (r : ResolveView) (xs : List CoreExport) (recorded : ExportRecord) (others : Bool) (needs : List Requirement) (later : AreMet r xs recorded needs → others ≡ true → recorded ≢ []) where
  item_has : (o : Option ItemView) → AreMet r xs recorded (cons_option (option_and_then item_requirement o) needs) → (option_map_or (has_function r) o false || others) ≡ true → recorded ≢ []
  item_has None met any = later met any
  item_has (Some (interface_item i external)) met any = interface_has recorded i (functions_of r i) others met.0 any (later met.1)
  item_has (Some (function_item f)) met any = recorded_has recorded (None, f.name) met.0
  item_has (Some (type_item t)) met any = later met any

-- of one key's requirement, after which others come
met_after : (r : ResolveView) (xs : List CoreExport) (recorded : ExportRecord) (o : Option Requirement) (needs rest : List Requirement) → AreMet r xs recorded (cons_option o needs ++ rest) → AreMet r xs recorded (cons_option o (needs ++ rest))
met_after r xs recorded None needs rest met = met
met_after r xs recorded (Some need) needs rest met = met

-- where a function is among what has to be exported, and all that has to be is, an export is recorded
exported_some : (r : ResolveView) (xs : List CoreExport) (recorded : ExportRecord) (exports : Entries) (rest : List Requirement) (keys : List KeyView) → AreMet r xs recorded (key_requirements exports keys ++ rest)
    → list_any (exports_function r exports) keys ≡ true → recorded ≢ []
exported_some r xs recorded exports rest [] met any = absurd (let bad : ⊥ = cc any in bad)
exported_some r xs recorded exports rest (k ∷ keys) met any =
    item_has r xs recorded (list_any (exports_function r exports) keys) (key_requirements exports keys ++ rest) (exported_some r xs recorded exports rest keys) (item_under exports k)
    (met_after r xs recorded (option_and_then item_requirement (item_under exports k)) (key_requirements exports keys) rest met) any

recorded_some : (e : EncoderView) (main : ModuleRecord) (x : NamedAdapter) (bytes : List ℕ) (first : ModuleRecord) → IsRecordOf (validation_input_of e main x) bytes first → list_any (exports_function e.resolve (world_exports e)) x.1.required_exports ≡ true → first.exports ≢ []
recorded_some e main x bytes first h any =
    let w : WorldView = h.exports.1.0 in
    let xs : List CoreExport = core_exports h.value h.value.exports in
    let rest : List Requirement = map type_requirement (required_in main.imports x.0) in
    let met : AreMet e.resolve xs first.exports (key_requirements w.exports x.1.required_exports ++ rest) =
    subst (λ (z : NameScope). AreMet z.resolve xs first.exports (key_requirements z.world.exports x.1.required_exports ++ rest)) h.exports.1.2 h.exports.3.1.1
    in
    let same : world_exports e ≡ w.exports = ap (λ o. option_map_or (λ (v : WorldView). v.exports) o []) h.exports.1.1 in
    exported_some e.resolve xs first.exports w.exports rest x.1.required_exports met (subst (λ z. list_any (exports_function e.resolve z) x.1.required_exports ≡ true) same any)

names_some : (exports : ExportRecord) → exports ≢ [] → first_occurrences (map (λ (x : List ℕ × ExportView). x.0) exports) ≢ []
names_some [] some is = some refl
names_some (x ∷ exports) some is = let bad : ⊥ = cc is in bad

required_some : (required : List (List ℕ × FuncTypeValue)) (exports : ExportRecord) (others : Bool) → (is_some_of required || others) ≡ true → (others ≡ true → exports ≢ []) → required_names required exports ≢ []
required_some [] exports others any some is = names_some exports (some any) is
required_some (f ∷ required) exports others any some is = let bad : ⊥ = cc is in bad

-- of an adapter that is no library, since it is needed for a function
pub needed_some : (e : EncoderView) (main : ModuleRecord) (x : NamedAdapter) (bytes : List ℕ) (first : ModuleRecord) → x.1.library_info ≡ None → is_adapter_needed e main x ≡ true → IsRecordOf (validation_input_of e main x) bytes first
    → required_names (required_in main.imports x.0) first.exports ≢ []
needed_some e main x bytes first none needed h =
    let others : Bool = list_any (exports_function e.resolve (world_exports e)) x.1.required_exports in
    required_some (required_in main.imports x.0) first.exports others
    (subst (λ o. (is_some o || (is_some_of (required_in main.imports x.0) || others)) ≡ true) none needed) (recorded_some e main x bytes first h)
