-- A context for lowering functions, as the lowerer that it is, and what is added by it.
use Rattle.std.specs.Prelude.{◌≡◌, ◌++◌, List, [], String, Vec, map, ◌∷◌, Option, Some, Result, OnOk}
use Rattle.std.specs.Map.{lookup}
use Rattle.std.specs.declared.alloc.Global.{Global}
use Rattle.std.specs.declared.rc.Rc.{Rc}
use Rattle.indexmap.specs.IndexMap.{IndexMap}
use Rattle.wc_resolve.specs.declared.functions.AbiVariant.{AbiVariant}
use Rattle.wc_resolve.specs.declared.ids.InterfaceId.{InterfaceId}
use Rattle.wc_resolve.specs.Views.{FunctionView, ItemView, KeyView}
use Rattle.wc_names.specs.Views.{ImportView}
use Rattle.wc_world.specs.Lowering.{KeyedLowering, Lowerer, interface_entry, lowered_function, lowerer_of, lowerings_of_interface, AreEntriesDistinct, ImportEntry}
use Rattle.wc_world.specs.Options.{OptionsOf}
use Rattle.wc_world.specs.Private.ImportedItems.{ForImported}
use Rattle.wc_world.specs.Used.{same_interface}
use Rattle.wc_world.specs.Views.{LoweringView}
use Rattle.wc_world.specs.WorldViews.{lowering_entry, import_map_view}
use Rattle.wc_world.specs.declared.imported.Lowering.{Lowering}
use Rattle.wc_world.specs.declared.lowering.Lowerings.{Lowerings}
use Rattle.wc_world.specs.declared.imported.ImportedInterface.{ImportedInterface}

-- the lowerer of a context, where core modules import these
abbrev pub lowerer_in : {O : Type 0} → (O → OptionsOf) → Lowerings O → List ImportView → Lowerer
lowerer_in options_of c imports = lowerer_of c.resolve.now (options_of c.options.now) c.has_memory imports

-- a fact about the lowerer of a context, which has the imports that the context requires
abbrev pub ForLowerer : {O : Type 0} → (O → OptionsOf) → Lowerings O → (Lowerer → Type 0) → Type 0
ForLowerer options_of c P = ForImported c.imported.now (λ imports. P (lowerer_in options_of c imports))

-- how a function is lowered, whatever core modules import
abbrev pub lowered_in : {O : Type 0} → (O → OptionsOf) → Lowerings O → FunctionView → AbiVariant → LoweringView
lowered_in options_of c f abi = lowered_function (lowerer_in options_of c []) f abi

-- a list has these lowerings in addition, after its own
abbrev pub AddsLowerings : Vec ((String Global × AbiVariant) × Lowering) Global → Vec ((String Global × AbiVariant) × Lowering) Global → List KeyedLowering → Type 0
AddsLowerings old new more = map lowering_entry new.items ≡ map lowering_entry old.items ++ more

-- no two entries have one name, of a map and this one
abbrev pub AreDistinctWith : {S : Type 0} → IndexMap (Option (String Global)) ImportedInterface S → ImportEntry → Type 0
AreDistinctWith m e = AreEntriesDistinct (import_map_view m ++ e ∷ [])

-- a map has this entry in addition, after its own
abbrev pub AddsEntry : {S : Type 0} → IndexMap (Option (String Global)) ImportedInterface S → IndexMap (Option (String Global)) ImportedInterface S → ImportEntry → Type 0
AddsEntry old new e = import_map_view new ≡ import_map_view old ++ e ∷ []

-- on success a map has an entry in addition, if no two have one name then
abbrev pub AddsEntryOnOk : {T E S : Type 0} → Result T E → IndexMap (Option (String Global)) ImportedInterface S → IndexMap (Option (String Global)) ImportedInterface S → ImportEntry → Type 0
AddsEntryOnOk result old new e = AreDistinctWith old e → OnOk result (AddsEntry old new e)

-- on success a map has the entry of an import in addition, if that is an interface, and no two have one name then
abbrev pub AddsInterfaceOnOk : {T E S : Type 0} → Result T E → IndexMap (Option (String Global)) ImportedInterface S → IndexMap (Option (String Global)) ImportedInterface S → Lowerer → KeyView × ItemView → Type 0
AddsInterfaceOnOk result old new l x = (e : ImportEntry) → interface_entry l x ≡ Some e → AddsEntryOnOk result old new e

-- lowerings by interfaces are those of these interfaces
abbrev pub AreKept : {S : Type 0} → Lowerer → List (InterfaceId × Rc (IndexMap (String Global × AbiVariant) Lowering S) Global) → Type 0
AreKept {S} l kept = (i : InterfaceId) (found : Rc (IndexMap (String Global × AbiVariant) Lowering S) Global) → lookup (same_interface i) kept ≡ Some found → map lowering_entry found.value.entries ≡ lowerings_of_interface l i.0
