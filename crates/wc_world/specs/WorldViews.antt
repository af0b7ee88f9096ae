-- What is seen of a component's world and of its parts.
use Rattle.std.specs.Prelude.{ℕ, Bool, true, false, List, map, Option, String, string_bytes}
use Rattle.std.specs.Borrow.{Bor}
use Rattle.std.specs.Cow.{cow_slice_items}
use Rattle.std.specs.Option.{option_map}
use Rattle.std.specs.declared.alloc.Global.{Global}
use Rattle.std.specs.declared.borrow.CowSlice.{CowSlice}
use Rattle.std.specs.declared.borrow.CowSlice.TheVariants.{Borrowed, Owned}
use Rattle.indexmap.specs.IndexMap.{IndexMap}
use Rattle.indexmap.specs.IndexSet.{IndexSet}
use Rattle.wc_read.specs.declared.types.FuncType.{FuncType}
use Rattle.wc_read.specs.Types.{FuncTypeValue}
use Rattle.wc_resolve.specs.declared.functions.AbiVariant.{AbiVariant}
use Rattle.wc_resolve.specs.declared.ids.InterfaceId.{InterfaceId}
use Rattle.wc_resolve.specs.declared.ids.TypeId.{TypeId}
use Rattle.wc_resolve.specs.Dependencies.{id_of_interface}
use Rattle.wc_resolve.specs.Roots.{indices}
use Rattle.wc_resolve.specs.Signature.{signature_view}
use Rattle.wc_adapters.specs.Adapters.{library_view}
use Rattle.wc_validate.specs.Validate.{module_record}
use Rattle.wc_validate.specs.Imports.Map.{required_entry}
use Rattle.wc_world.specs.Used.{used_view}
use Rattle.wc_world.specs.Views.{ComponentWorldView, ImportMapView, ImportedView, LoweringKey, LoweringView, NamedWorldAdapter, WorldAdapterView, direct, indirect, resource_drop}
use Rattle.wc_world.specs.declared.adapter.WorldAdapter.{WorldAdapter}
use Rattle.wc_world.specs.declared.imported.ImportedInterface.{ImportedInterface}
use Rattle.wc_world.specs.declared.imported.Lowering.{Lowering}
use Rattle.wc_world.specs.declared.imported.Lowering.TheVariants.{Direct, Indirect, ResourceDrop}
use Rattle.wc_world.specs.declared.world.ComponentWorld.{ComponentWorld}

abbrev pub lowering_view : Lowering → LoweringView
lowering_view (Direct options) = direct options.0
lowering_view (Indirect sig options) = indirect (signature_view sig) options.0
lowering_view (ResourceDrop t) = resource_drop t.0

abbrev pub lowering_entry : (String Global × AbiVariant) × Lowering → LoweringKey × LoweringView
lowering_entry e = ((string_bytes e.0.0, e.0.1), lowering_view e.1)

abbrev pub imported_view : ImportedInterface → ImportedView
imported_view i = record {
  lowerings = map lowering_entry i.lowerings.value.entries;
  interface = option_map id_of_interface i.interface;
  implements = option_map id_of_interface i.implements;
  external_id = option_map string_bytes i.external_id;
}

abbrev pub imported_entry : Option (String Global) × ImportedInterface → Option (List ℕ) × ImportedView
imported_entry e = (option_map string_bytes e.0, imported_view e.1)

abbrev pub import_map_view : {S : Type 0} → IndexMap (Option (String Global)) ImportedInterface S → ImportMapView
import_map_view m = map imported_entry m.entries

abbrev pub is_borrowed : {X Z : Type 0} → CowSlice X Z → Bool
is_borrowed (Borrowed bytes) = true
is_borrowed (Owned bytes) = false

abbrev pub adapter_view : WorldAdapter → WorldAdapterView
adapter_view a = record {
  wasm = cow_slice_items a.wasm;
  is_borrowed = is_borrowed a.wasm;
  info = module_record a.info;
  library_info = option_map (λ l. library_view l.now) a.library_info;
}

abbrev pub adapter_entry : Bor (List ℕ) × WorldAdapter → NamedWorldAdapter
adapter_entry e = (e.0.now, adapter_view e.1)

abbrev pub adapters_view : {S : Type 0} → IndexMap (Bor (List ℕ)) WorldAdapter S → List NamedWorldAdapter
adapters_view m = map adapter_entry m.entries

-- functions by their names, with their types
abbrev pub required_view : {S : Type 0} → IndexMap (String Global) FuncType S → List (List ℕ × FuncTypeValue)
required_view m = map required_entry m.entries

-- types by the interfaces that own them
abbrev pub live_view : {S T : Type 0} → IndexMap InterfaceId (IndexSet TypeId S) T → List (ℕ × List ℕ)
live_view m = map (λ e. (e.0.0, indices e.1.keys)) m.entries

abbrev pub world_view : ComponentWorld → ComponentWorldView
world_view w = record {
  encoder = w.encoder.now;
  info = module_record w.info;
  adapters = adapters_view w.adapters;
  import_map = import_map_view w.import_map;
  live_type_imports = live_view w.live_type_imports;
  exports_used = used_view w.exports_used;
}
