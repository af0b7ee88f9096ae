-- The types that the imports and exports of a component's world need, and that are imported.
use Rattle.std.specs.Prelude.{◌≡◌, ◌==◌, ℕ, ◌<◌, length, All, Contains, List, [], ◌∷◌, ◌++◌, map, filter, Bool, false, not, ◌&&◌, Option, Some, None, Result, OnOk}
use Rattle.std.specs.Option.{option_map_or}
use Rattle.std.specs.List.{filter_map, flat_map}
use Rattle.indexmap.specs.IndexMap.{IndexMap}
use Rattle.indexmap.specs.IndexSet.{IndexSet}
use Rattle.wc_resolve.specs.Dependencies.{interface_owning}
use Rattle.wc_resolve.specs.Live.{list_union, listing_from}
use Rattle.wc_resolve.specs.Roots.{function_roots, item_roots, type_roots}
use Rattle.wc_resolve.specs.Views.{ItemView, KeyView, WorldView, interface_item, FunctionView}
use Rattle.wc_resolve.specs.Kinds.{ResolveView}
use Rattle.wc_resolve.specs.declared.ids.InterfaceId.{InterfaceId}
use Rattle.wc_resolve.specs.declared.ids.TypeId.{TypeId}
use Rattle.wc_encoder.specs.Dependencies.{AreItemsIn}
use Rattle.wc_encoder.specs.EncoderParts.{EncoderView, IsWorldOf, world_exports, world_imports}
use Rattle.wc_adapters.specs.Entries.{Entries}
use Rattle.wc_names.specs.Laws.{IsImportIn}
use Rattle.wc_names.specs.Keys.{as_type, item_under}
use Rattle.wc_texts.specs.Names.{under_name}
use Rattle.wc_names.specs.Views.{ImportView, PayloadTypeView, PayloadView, async_value, exported_resource_drop, exported_resource_new, exported_resource_rep, exported_task_return, imported_resource_drop, interface_func, typed, world_func}
use Rattle.wc_validate.specs.Imports.Entries.{Records}
use Rattle.wc_validate.specs.Imports.Map.{imports_in}
use Rattle.wc_validate.specs.Requirements.{functions_of}
use Rattle.wc_validate.specs.Validate.{ModuleRecord}
use Rattle.wc_world.specs.Private.ImportedItems.{is_in}
use Rattle.wc_world.specs.Slots.{imports_of}
use Rattle.wc_world.specs.Used.{UsedView}
use Rattle.wc_world.specs.Views.{NamedWorldAdapter}
use Rattle.wc_world.specs.WorldViews.{live_view}

-- a future or a stream that has a type
abbrev pub payload_roots : PayloadTypeView → List ℕ
payload_roots (typed t function) = t ∷ []
payload_roots ty = []

-- the resource that an import drops, makes or represents
abbrev pub import_resource : ImportView → Option ℕ
import_resource (imported_resource_drop key interface t) = Some t
import_resource (exported_resource_drop key t) = Some t
import_resource (exported_resource_new key t) = Some t
import_resource (exported_resource_rep key t) = Some t
import_resource import = None

-- the future or stream that an import is for
abbrev pub import_payload : ImportView → Option PayloadView
import_payload (async_value value operation is_async info) = Some info
import_payload import = None

-- the types that an import needs that is no function: its resource, or its future or stream
abbrev pub builtin_roots : ImportView → List ℕ
builtin_roots import = option_map_or (λ (t : ℕ). t ∷ []) (import_resource import) (option_map_or (λ (p : PayloadView). payload_roots p.ty) (import_payload import) [])

-- the types that are needed of what a world imports under a key
abbrev pub roots_under : ResolveView → Entries → KeyView → List ℕ
roots_under r imports key = option_map_or (item_roots r) (item_under imports key) []

-- the types that the function of a name of an interface needs
abbrev pub named_function_roots : ResolveView → ℕ → List ℕ → List ℕ
named_function_roots r i name = option_map_or function_roots (under_name (functions_of r i) name) []

-- the types that are needed of what a function returns
abbrev pub result_roots : FunctionView → List ℕ
result_roots f = option_map_or type_roots f.outcome []

-- the types that an import needs: its function, or what its task returns, or its resource, future or stream
abbrev pub import_roots : ResolveView → Entries → ImportView → List ℕ
import_roots r imports (world_func key name abi) = roots_under r imports key
import_roots r imports (interface_func key i name abi) = named_function_roots r i name
import_roots r imports (exported_task_return key interface f) = result_roots f
import_roots r imports import = builtin_roots import

-- the types that a world imports
abbrev pub imported_types : Entries → List ℕ
imported_types imports = filter_map (λ (x : KeyView × ItemView). as_type x.1) imports

-- the types that a module needs: those that the world imports, and then those of each recorded import
abbrev pub module_roots : ResolveView → Entries → Records → List ℕ
module_roots r imports records = imported_types imports ++ flat_map (import_roots r imports) (imports_of (imports_in records))

-- an exported interface uses another one, by these sets
abbrev pub is_used : UsedView → ℕ → ℕ → Bool
is_used sets i k = option_map_or (λ (test : ℕ → Bool). test k) (sets i) false

-- a type is owned by an interface that is neither this one nor one that it uses
abbrev pub is_from_elsewhere : ResolveView → UsedView → ℕ → ℕ → Bool
is_from_elsewhere r sets i t = option_map_or (λ (k : ℕ). not (k == i) && not (is_used sets i k)) (interface_owning r t) false

-- types with those that they need: each after those that it refers to, without repeats
abbrev pub live_from : ResolveView → List ℕ → List ℕ
live_from r roots = list_union [] (listing_from r.types roots)

-- of the live types of an interface those that are from elsewhere
abbrev pub elsewhere_from : ResolveView → UsedView → ℕ → List ℕ → List ℕ
elsewhere_from r sets i roots = filter (is_from_elsewhere r sets i) (live_from r roots)

-- the types that an export needs: those of a function; of an interface its live types that are from elsewhere
abbrev pub export_roots : ResolveView → UsedView → ItemView → List ℕ
export_roots r sets (interface_item i external) = elsewhere_from r sets i (item_roots r (interface_item i external))
export_roots r sets item = item_roots r item

-- the types that adapters need, and those that exports need
abbrev pub adapter_roots : ResolveView → Entries → List NamedWorldAdapter → List ℕ
adapter_roots r imports adapters = flat_map (λ (a : NamedWorldAdapter). module_roots r imports a.1.info.imports) adapters

abbrev pub exports_roots : ResolveView → UsedView → Entries → List ℕ
exports_roots r sets exports = flat_map (λ (x : KeyView × ItemView). export_roots r sets x.1) exports

-- the types that a world needs: those of the main module, of the adapters, and of the exports
abbrev pub world_roots : ResolveView → UsedView → Entries → Entries → ModuleRecord → List NamedWorldAdapter → List ℕ
world_roots r sets imports exports main adapters = module_roots r imports main.imports ++ (adapter_roots r imports adapters ++ exports_roots r sets exports)

-- the live types that a world needs, whose main module and adapters these are
abbrev pub live_types_of : ResolveView → UsedView → WorldView → ModuleRecord → List NamedWorldAdapter → List ℕ
live_types_of r sets w main adapters = live_from r (world_roots r sets w.imports w.exports main adapters)

-- the live types that the world of an encoder needs
abbrev pub live_types : EncoderView → UsedView → ModuleRecord → List NamedWorldAdapter → List ℕ
live_types e sets main adapters = live_from e.resolve (world_roots e.resolve sets (world_imports e) (world_exports e) main adapters)

-- types by the interfaces that own them, each in the order of its first type
abbrev pub is_owned_by : ResolveView → ℕ → ℕ → Bool
is_owned_by r i t = option_map_or (λ (k : ℕ). k == i) (interface_owning r t) false

abbrev pub by_owner : ResolveView → List ℕ → List (ℕ × List ℕ)
by_owner r types = map (λ i. (i, filter (is_owned_by r i) types)) (list_union [] (filter_map (interface_owning r) types))

-- on success a type is added to the group of its owner, where it is in none
abbrev pub AddsTypeOnOk : {T E S U : Type 0} → Result T E → ResolveView → IndexMap InterfaceId (IndexSet TypeId S) U → IndexMap InterfaceId (IndexSet TypeId S) U → ℕ → Type 0
AddsTypeOnOk result r old new t = (passed : List ℕ) → is_in passed t ≡ false → live_view old ≡ by_owner r passed → OnOk result (live_view new ≡ by_owner r (passed ++ t ∷ []))

-- the live types of an encoder's world, by their owners
abbrev pub AreLive : EncoderView → UsedView → ModuleRecord → List NamedWorldAdapter → List (ℕ × List ℕ) → Type 0
AreLive e sets main adapters groups = groups ≡ by_owner e.resolve (live_types e sets main adapters)

-- no type is there twice
abbrev pub IsWithoutRepeats : List ℕ → Type 0
IsWithoutRepeats [] = Unit {0}
IsWithoutRepeats (t ∷ ts) = (is_in ts t ≡ false) × IsWithoutRepeats ts

-- types that are there, none twice
pub record AreListed (r : ResolveView) (types : List ℕ) : Type 0 where
  pub there : (t : ℕ) → Contains types t → t < length r.types
  pub once : IsWithoutRepeats types

-- what recorded imports name is there
abbrev pub AreImportsIn : ResolveView → WorldView → Records → Type 0
AreImportsIn r w records = All (λ (x : List ℕ × (List ℕ × ImportView)). IsImportIn r w x.1.1) (imports_in records)

-- what the live types of a world are found by is there: its imports and exports, and what the imports of modules name
pub record AreRootsIn (r : ResolveView) (w : WorldView) (main : ModuleRecord) (adapters : List NamedWorldAdapter) : Type 0 where
  pub imports : AreItemsIn r w.imports
  pub exports : AreItemsIn r w.exports
  pub of_main : AreImportsIn r w main.imports
  pub of_adapters : All (λ (a : NamedWorldAdapter). AreImportsIn r w a.1.info.imports) adapters

-- what the imports of a module name is there, in the world of an encoder
abbrev pub AreImportsOf : EncoderView → ModuleRecord → Type 0
AreImportsOf e m = (w : WorldView) → IsWorldOf e w → AreImportsIn e.resolve w m.imports
