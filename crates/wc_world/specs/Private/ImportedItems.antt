-- Which functions and drops core modules import, as sets.
use Rattle.std.specs.Prelude.{◌≡◌, ◌==◌, ◌&&◌, nat_eq, ℕ, List, Bool, false, Option, Some, None, String, ◌++◌, Result, OnOk}
use Rattle.std.specs.List.{list_any}
use Rattle.std.specs.Map.{lookup}
use Rattle.std.specs.Option.{option_eq, option_map, option_map_or}
use Rattle.std.specs.Str.{bytes_eq}
use Rattle.std.specs.declared.alloc.Global.{Global}
use Rattle.indexmap.specs.IndexSet.{IndexSet, contains_text}
use Rattle.wc_resolve.specs.declared.functions.AbiVariant.{AbiVariant}
use Rattle.wc_resolve.specs.declared.functions.AbiVariant.TheVariants.{GuestImport, GuestImportAsync}
use Rattle.wc_resolve.specs.declared.ids.InterfaceId.{InterfaceId}
use Rattle.wc_resolve.specs.Dependencies.{id_of_interface}
use Rattle.wc_resolve.specs.Roots.{indices}
use Rattle.wc_resolve.specs.Views.{KeyView}
use Rattle.wc_names.specs.Views.{FunctionImportView, ImportView, imported_resource_drop}
use Rattle.wc_world.specs.Lowering.{is_drop_of, is_import_of}
use Rattle.wc_world.specs.declared.imported_items.ImportedItems.{ImportedItems}

-- the index of an interface, if there is one
abbrev pub interface_index : Option InterfaceId → Option ℕ
interface_index interface = option_map id_of_interface interface

-- the index of the interface of a function that is imported, if it is of one
abbrev pub interface_of : FunctionImportView → Option ℕ
interface_of f = option_map (λ (i : KeyView × ℕ). i.1) f.interface

-- whether an index is listed
abbrev pub is_in : List ℕ → ℕ → Bool
is_in xs x = list_any (λ y. x == y) xs

-- names of functions by the interface that they are of; without one they are of the world
abbrev pub NamesByInterface : Type 0 → Type 0
NamesByInterface S = List (Option InterfaceId × IndexSet (String Global) S)

abbrev pub same_of : Option InterfaceId → Option InterfaceId → Bool
same_of a b = option_eq (λ i j. i.0 == j.0) a b

abbrev pub has_called : {S : Type 0} → NamesByInterface S → Option InterfaceId → List ℕ → Bool
has_called names interface name = option_map_or (λ others. contains_text others name) (lookup (same_of interface) names) false

-- the functions that are imported to be called in this way
abbrev pub AreCalled : {S : Type 0} → AbiVariant → List ImportView → NamesByInterface S → Type 0
AreCalled abi imports names = (interface : Option InterfaceId) (name : List ℕ) → has_called names interface name ≡ list_any (is_import_of (interface_index interface) name abi) imports

-- a fact about imports, and a way to call, of which these are the functions
abbrev pub ForCalled : {S : Type 0} → NamesByInterface S → (AbiVariant → List ImportView → Type 0) → Type 0
ForCalled names P = (abi : AbiVariant) (imports : List ImportView) → AreCalled abi imports names → P abi imports

-- an import is this function, called in this way, and no other
abbrev pub IsCall : AbiVariant → Option ℕ × List ℕ → ImportView → Type 0
IsCall abi f i = (interface : Option ℕ) (name : List ℕ) → is_import_of interface name abi i ≡ (option_eq nat_eq interface f.0 && bytes_eq name f.1)

-- the functions and drops that are imported
pub record AreImported (imports : List ImportView) (s : ImportedItems) : Type 0 where
  pub functions : AreCalled GuestImport imports s.functions.entries
  pub async_functions : AreCalled GuestImportAsync imports s.async_functions.entries
  pub drops : (t : ℕ) → is_in (indices s.drops.keys) t ≡ list_any (is_drop_of t) imports

-- a fact about imports, of which these are the functions and drops
abbrev pub ForImported : ImportedItems → (List ImportView → Type 0) → Type 0
ForImported s P = (imports : List ImportView) → AreImported imports s → P imports

-- on success the functions and drops are those of these imports too
abbrev pub AddsImportsOnOk : {T E : Type 0} → Result T E → ImportedItems → ImportedItems → List ImportView → Type 0
AddsImportsOnOk result old new more = ForImported old (λ imports. OnOk result (AreImported (imports ++ more) new))

-- the resource of which an import is the drop
abbrev pub dropped_resource : ImportView → Option ℕ
dropped_resource (imported_resource_drop key interface t) = Some t
dropped_resource i = None
