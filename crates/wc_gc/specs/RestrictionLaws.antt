-- What a trimmed adapter imports and exports, beside the adapter itself.
use Rattle.std.specs.Prelude.{◌≡◌, ◌↔◌, ℕ, List, Bool, false, Option, Some, None, AllPairs, Contains}
use Rattle.std.specs.List.{All, AllZip, slice_get}
use Rattle.std.specs.Option.{option_and_then, option_map}
use Rattle.wc_read.specs.Exports.{ExportValue}
use Rattle.wc_read.specs.Imports.{ImportValue}
use Rattle.wc_read.specs.Items.{FuncValue, TableValue, MemoryValue, GlobalValue}
use Rattle.wc_read.specs.Modules.{ModuleValue, SpellsModule}
use Rattle.wc_read.specs.Renumbering.{renumber_func_type, renumber_global_type, renumber_table_type}
use Rattle.wc_read.specs.Types.{FuncTypeValue}
use Rattle.wc_read.specs.declared.exports.ExportKind.{ExportKind}
use Rattle.wc_read.specs.declared.exports.ExportKind.TheVariants as export
use Rattle.wc_read.specs.declared.operators.Space.TheVariants.{Funcs}
use Rattle.wc_read.specs.declared.types.GlobalType.{GlobalType}
use Rattle.wc_read.specs.declared.types.ImportType.{ImportType}
use Rattle.wc_read.specs.declared.types.ImportType.TheVariants.{Func, Table, Memory, Global}
use Rattle.wc_read.specs.declared.types.MemoryType.{MemoryType}
use Rattle.wc_read.specs.declared.types.TableType.{TableType}
use Rattle.wc_write.specs.Values.{AreBytes}
use Rattle.wc_read.specs.Decoded.{ItemIndex, decode}
use Rattle.wc_gc.specs.Found.{is_realloc_at, main_module}
use Rattle.wc_gc.specs.LiveItems.{IsLive, TrimInput}
use Rattle.wc_gc.specs.Parts.{SettingsView}
use Rattle.wc_gc.specs.TrimmedText.{IsTrimmed}
use Rattle.wc_read.specs.ImportItems.{IsImportItem}

-- the type of what is imported or exported
pub data ItemType : Type 0 where
  func_item : FuncTypeValue → ItemType
  table_item : TableType → ItemType
  memory_item : MemoryType → ItemType
  global_item : GlobalType → ItemType

-- the type of an import of a module with these types
abbrev pub import_type : List FuncTypeValue → ImportType → Option ItemType
import_type types (Func index) = option_map func_item (slice_get types index)
import_type types (Table t) = Some (table_item t)
import_type types (Memory t) = Some (memory_item t)
import_type types (Global t) = Some (global_item t)

-- the type of the item that an export of a kind names by its index
abbrev pub export_type : ModuleValue → ExportKind → ℕ → Option ItemType
export_type m export.Func index = option_and_then (λ (f : FuncValue). option_map func_item (slice_get m.types f.ty)) (slice_get m.funcs index)
export_type m export.Table index = option_map (λ (t : TableValue). table_item t.ty) (slice_get m.tables index)
export_type m export.Memory index = option_map (λ (t : MemoryValue). memory_item t.ty) (slice_get m.memories index)
export_type m export.Global index = option_map (λ (g : GlobalValue). global_item g.ty) (slice_get m.globals index)

-- a type without the indices of the types that it names, which mean nothing in another module
abbrev pub without_indices : ItemType → ItemType
without_indices (func_item t) = func_item (renumber_func_type (λ space n. 0) t)
without_indices (table_item t) = table_item (renumber_table_type (λ space n. 0) t)
without_indices (memory_item t) = memory_item t
without_indices (global_item t) = global_item (renumber_global_type (λ space n. 0) t)

-- types of items of two modules, where they are there, are the same but for such indices
abbrev pub AreSameTypesButIndices : Option ItemType → Option ItemType → Type 0
AreSameTypesButIndices t u = option_map without_indices t ≡ option_map without_indices u

-- an import of one module, and one of another: of the same module, by the same name, and of the same type but for indices
pub record SameImport (v m : ModuleValue) (j i : ImportValue) : Type 0 where
  pub from : j.module_name ≡ i.module_name
  pub name : j.name ≡ i.name
  pub ty : AreSameTypesButIndices (import_type v.types j.ty) (import_type m.types i.ty)

-- an export of one module, and one of another: by the same name, and of the same type but for type indices
pub record SameExport (v m : ModuleValue) (x y : ExportValue) : Type 0 where
  pub name : x.name ≡ y.name
  pub kind : x.kind ≡ y.kind
  pub ty : AreSameTypesButIndices (export_type v x.kind x.index) (export_type m y.kind y.index)

-- an import of the function that the main module exports as this realloc
pub record IsMainImport (realloc : Option (List ℕ)) (m : ModuleValue) (i : ImportValue) : Type 0 where
  pub from : i.module_name ≡ main_module
  pub name : realloc ≡ Some i.name
  pub func : FuncTypeValue
  pub ty : import_type m.types i.ty ≡ Some (func_item func)

-- where an import of the trimmed adapter is from: the adapter's import at a position; or no import of it, but the main
-- module's realloc
abbrev pub HasOrigin : Option (List ℕ) → ModuleValue → ModuleValue → Option ℕ → ImportValue → Type 0
HasOrigin realloc v m (Some position) i = (j : ImportValue) × (slice_get v.imports position ≡ Some j) × SameImport v m j i
HasOrigin realloc v m None i = IsMainImport realloc m i

-- whether an item is an imported realloc
abbrev pub is_realloc_item : ModuleValue → ItemIndex → Bool
is_realloc_item v (Funcs, index) = is_realloc_at (decode v) index
is_realloc_item v (space, index) = false

-- the import at this position is an item that the kept exports reach, and no realloc
pub record IsKeptImport (names : List (List ℕ)) (v : ModuleValue) (position : ℕ) : Type 0 where
  pub item : ItemIndex
  pub is_item : IsImportItem v.imports position item
  pub live : IsLive names v item
  pub no_realloc : is_realloc_item v item ≡ false

-- an export of the trimmed adapter is one of the adapter; an export of the adapter is one of the trimmed adapter

abbrev pub IsOldExport : ModuleValue → ModuleValue → ExportValue → Type 0
IsOldExport v m y = (x : ExportValue) × Contains v.exports x × SameExport v m x y

abbrev pub IsNewExport : ModuleValue → ModuleValue → ExportValue → Type 0
IsNewExport v m x = (y : ExportValue) × Contains m.exports y × SameExport v m x y

-- the trimmed adapter `m` of the adapter `v`: each of its imports is another import of the adapter, or the main module's
-- realloc, and they are those that its kept exports reach; its exports are those of the adapter with these names
pub record IsRestriction (realloc : Option (List ℕ)) (names : List (List ℕ)) (v m : ModuleValue) : Type 0 where
  pub origins : List (Option ℕ)
  pub imports : AllZip (HasOrigin realloc v m) origins m.imports
  pub distinct : AllPairs (λ a b. a ≡ b → a ≡ None) origins
  pub reached : (position : ℕ) → Contains origins (Some position) ↔ IsKeptImport names v position
  pub old_exports : All (IsOldExport v m) m.exports
  pub new_exports : (x : ExportValue) → Contains v.exports x → Contains names x.name → IsNewExport v m x
  pub export_names : All (λ y. Contains names y.name) m.exports

-- the module that a trimmed adapter's bytes spell
abbrev pub TrimmedIsRestriction : Type 0
TrimmedIsRestriction = (s : SettingsView) (w : TrimInput) (text : List ℕ) → AreBytes w.bytes →
    (t : IsTrimmed s w text) →
    (m : ModuleValue) → SpellsModule text m →
    IsRestriction s.realloc w.required t.image.value m
