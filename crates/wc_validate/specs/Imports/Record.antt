-- The imports of a core module, recorded; and why one of them is refused.
use Rattle.std.specs.Prelude.{◌≡◌, ◌≢◌, ◌⊎◌, ℕ, List, [], ◌∷◌, ◌++◌, map, Option, Some, None, slice_get, unwrap_or}
use Rattle.std.specs.Map.{lookup}
use Rattle.std.specs.Option.{option_and_then, option_map}
use Rattle.std.specs.Str.{bytes_eq}
use Rattle.wc_read.specs.declared.types.MemoryType.{MemoryType}
use Rattle.wc_read.specs.declared.types.ImportType.{ImportType}
use Rattle.wc_read.specs.declared.types.ImportType.TheVariants as imported
use Rattle.wc_read.specs.Imports.{ImportValue}
use Rattle.wc_read.specs.Types.{FuncTypeValue}
use Rattle.wc_dedupe.specs.Renaming.{RenameView, original_in}
use Rattle.wc_adapters.specs.Adapters.{WhichView, InstanceView, module_instance, item_instance, LibraryView, LibraryItemView}
use Rattle.wc_names.specs.First.{FirstOf}
use Rattle.wc_names.specs.Imports.{NameScope, ExternType, func_type, table_type, memory_type, global_type, CoreImport, Classified}
use Rattle.wc_names.specs.Meanings.{means}
use Rattle.wc_names.specs.Views.{ImportView, adapter_export, main_module_memory, library_item}
use Rattle.wc_validate.specs.declared.fault.ValidateFault.{ValidateFault}
use Rattle.wc_validate.specs.declared.fault.ValidateFault.TheVariants.{WholeDiffers, Mixed, SeveralMemoryImports, DuplicateImport, AdapterTypesDiffer}
use Rattle.wc_validate.specs.Imports.Entries.{Entry, single, whole, all_of, names_of, by_modules, Records, IsAllRecorded, IsNameRecorded, memory_of, adapter_type_of, first_by}
use Rattle.wc_validate.specs.Fault.{import_fault_kind}
use Rattle.wc_validate.specs.Imports.Classify.{HasSignature, IsNameFault}

-- what imports are recorded by: what names are looked up in; the library that the module is, if it is one; the original
-- names of its imports, if some were renamed; and its types
pub record ImportScope : Type 0 where
  pub name_scope : NameScope
  pub library : Option LibraryView
  pub renames : Option (List RenameView)
  pub types : List FuncTypeValue

-- the type of an import; that of a function by its index
abbrev pub extern_type : List FuncTypeValue → ImportType → Option ExternType
extern_type types (imported.Func index) = option_map func_type (slice_get types index)
extern_type types (imported.Table ty) = Some (table_type ty)
extern_type types (imported.Memory ty) = Some (memory_type ty)
extern_type types (imported.Global ty) = Some (global_type ty)

-- the name that an import had before it was renamed
abbrev pub original_name : Option (List RenameView) → List ℕ → List ℕ → List ℕ
original_name None m name = name
original_name (Some renames) m name = unwrap_or (original_in renames m name) name

-- the import as it is classified: by its original name
abbrev pub IsCoreImport : ImportScope → ImportValue → CoreImport → Type 0
IsCoreImport s i a = (a.from ≡ i.module_name) × (a.name ≡ original_name s.renames i.module_name i.name) × (extern_type s.types i.ty ≡ Some a.ty)

-- the argument that a library has for a module's name: the first of that name
abbrev pub argument_for : Option LibraryView → List ℕ → Option InstanceView
argument_for None m = None
argument_for (Some l) m = lookup (bytes_eq m) l.arguments

-- the first of the items that a library imports by this name
abbrev pub alias_entry : LibraryItemView → List ℕ × LibraryItemView
alias_entry i = (i.alias, i)

abbrev pub item_by_alias : List LibraryItemView → List ℕ → Option LibraryItemView
item_by_alias items name = lookup (bytes_eq name) (map alias_entry items)

-- the entry of an import for which a library has an argument
abbrev pub item_entry : List ℕ → List ℕ → LibraryItemView → Entry
item_entry m name item = single m name (library_item item)

abbrev pub argument_entry : List ℕ → List ℕ → InstanceView → Option Entry
argument_entry m name (module_instance which) = Some (whole m which)
argument_entry m name (item_instance items) = option_map (item_entry m name) (item_by_alias items name)

abbrev pub library_entry : Option LibraryView → List ℕ → List ℕ → Option Entry
library_entry library m name = option_and_then (argument_entry m name) (argument_for library m)

-- the entry of an import, under its current name: that of an argument of the library, or else what its original name
-- means
abbrev pub IsEntry : ImportScope → ImportValue → Entry → Type 0
IsEntry s i x =
    (library_entry s.library i.module_name i.name ≡ Some x)
    ⊎ ((library_entry s.library i.module_name i.name ≡ None) × (a : CoreImport) × (v : ImportView) × (required_type : Option FuncTypeValue)
    × IsCoreImport s i a × Classified s.name_scope a (means v required_type) × HasSignature a.ty required_type × (x ≡ single i.module_name i.name v))

-- the cause of each fault of an entry after those before it: its module stands for two modules of the component, or for a
-- module and for single imports; it is a second memory of the main module; its name is recorded; or it imports a function
-- of an adapter with another type than the first import of that function
abbrev pub IsEntryCause : List Entry → Entry → ValidateFault → Type 0
IsEntryCause before (whole m which) WholeDiffers = (other : WhichView) × (lookup (bytes_eq m) (by_modules before) ≡ Some (all_of other)) × (other ≢ which)
IsEntryCause before (whole m which) Mixed = (names : List (List ℕ × ImportView)) × (lookup (bytes_eq m) (by_modules before) ≡ Some (names_of names))
IsEntryCause before (whole m which) f = ⊥
IsEntryCause before (single m name i) SeveralMemoryImports = (ty other : MemoryType) × (i ≡ main_module_memory ty) × (first_by memory_of before ≡ Some other)
IsEntryCause before (single m name i) Mixed = IsAllRecorded (by_modules before) m
IsEntryCause before (single m name i) DuplicateImport = IsNameRecorded (by_modules before) m name
IsEntryCause before (single m name i) AdapterTypesDiffer =
    (adapter function : List ℕ) × (ty other : FuncTypeValue) × (i ≡ adapter_export adapter function ty)
    × (first_by (adapter_type_of adapter function) before ≡ Some other) × (ty ≢ other)
IsEntryCause before (single m name i) f = ⊥

-- the faults of an entry, in their order, and the first of them that has a cause
abbrev pub entry_faults : List ValidateFault
entry_faults = WholeDiffers ∷ SeveralMemoryImports ∷ Mixed ∷ DuplicateImport ∷ AdapterTypesDiffer ∷ []

abbrev pub IsEntryFault : List Entry → Entry → ValidateFault → Type 0
IsEntryFault before x f = FirstOf (λ k (g : ValidateFault). IsEntryCause before x k × (g ≡ k)) entry_faults f

-- nothing is wrong with an entry after those before it
abbrev pub IsValidAfter : List Entry → Entry → Type 0
IsValidAfter before x = (f : ValidateFault) → ¬ IsEntryCause before x f

-- the entries of imports after others, each valid after all before it
abbrev pub AreEntries : ImportScope → List Entry → List ImportValue → List Entry → Type 0
AreEntries s before [] xs = xs ≡ []
AreEntries s before (i ∷ is) [] = ⊥
AreEntries s before (i ∷ is) (x ∷ xs) = IsEntry s i x × IsValidAfter before x × AreEntries s (before ++ x ∷ []) is xs

-- the imports of a module, recorded
abbrev pub AreImports : ImportScope → List ImportValue → Records → Type 0
AreImports s is records = (xs : List Entry) × AreEntries s [] is xs × (records ≡ by_modules xs)

-- the fault of one import after entries: of its name, or else the first of its entry
abbrev pub IsFaultOfImport : ImportScope → List Entry → ImportValue → ValidateFault → Type 0
IsFaultOfImport s before i f =
    ((library_entry s.library i.module_name i.name ≡ None) × (a : CoreImport) × IsCoreImport s i a × IsNameFault s.name_scope a (import_fault_kind f))
    ⊎ ((x : Entry) × IsEntry s i x × IsEntryFault before x f)

-- the fault of the first import that has one
abbrev pub IsImportFault : ImportScope → List Entry → List ImportValue → ValidateFault → Type 0
IsImportFault s before [] f = ⊥
IsImportFault s before (i ∷ is) f =
    IsFaultOfImport s before i f ⊎ ((x : Entry) × IsEntry s i x × IsValidAfter before x × IsImportFault s (before ++ x ∷ []) is f)
