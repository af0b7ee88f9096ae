-- Records of imports by modules, and one import more.
use Rattle.std.specs.Prelude.{◌≡◌, ◌≢◌, ◌⊎◌, ℕ, List, [], ◌∷◌, ◌++◌, map, Some, None, if◌then◌else◌, String, string_bytes, OnOk, Result}
use Rattle.std.specs.Map.{lookup}
use Rattle.std.specs.Str.{bytes_eq}
use Rattle.std.specs.declared.alloc.Global.{Global}
use Rattle.wc_adapters.specs.Adapters.{WhichView, which_view}
use Rattle.wc_names.specs.declared.imports.Import.{Import}
use Rattle.wc_names.specs.Views.{ImportView, import_view}
use Rattle.wc_validate.specs.declared.fault.ValidateFault.{ValidateFault}
use Rattle.wc_validate.specs.declared.fault.ValidateFault.TheVariants.{Memory, WholeDiffers, Mixed, DuplicateImport}
use Rattle.wc_validate.specs.declared.imports.instances.ImportInstance.{ImportInstance}
use Rattle.wc_validate.specs.declared.imports.instances.ImportInstance.TheVariants.{Whole, Names}
use Rattle.wc_validate.specs.Imports.Entries.{Entry, by_modules, InstanceRecord, all_of, names_of, Records, IsAllRecorded, IsNameRecorded, single}
use Rattle.wc_adapters.specs.declared.adapters.MainOrAdapter.{MainOrAdapter}

abbrev pub import_entry : String Global × Import → List ℕ × ImportView
import_entry e = (string_bytes e.0, import_view e.1)

abbrev pub instance_view : ImportInstance → InstanceRecord
instance_view (Whole which) = all_of (which_view which)
instance_view (Names names) = names_of (map import_entry names.entries)

abbrev pub instance_entry : String Global × ImportInstance → List ℕ × InstanceRecord
instance_entry e = (string_bytes e.0, instance_view e.1)

abbrev pub add_to : InstanceRecord → List ℕ → ImportView → InstanceRecord
add_to (all_of which) name i = all_of which
add_to (names_of names) name i = names_of (names ++ (name, i) ∷ [])

-- an import after the others of its module, or of a new module after all others
abbrev pub put_in : Records → List ℕ → List ℕ → ImportView → Records
put_in [] m name i = (m, names_of ((name, i) ∷ [])) ∷ []
put_in (e ∷ es) m name i = if bytes_eq m e.0 then (e.0, add_to e.1 name i) ∷ es else e ∷ put_in es m name i

-- an import can be recorded under this name
abbrev pub IsFree : Records → List ℕ → List ℕ → Type 0
IsFree records m name = (¬ IsAllRecorded records m) × (¬ IsNameRecorded records m name)

-- why an import can't be recorded under a name
abbrev pub IsPutFault : Records → List ℕ → List ℕ → ValidateFault → Type 0
IsPutFault records m name Memory = Unit {0}
IsPutFault records m name Mixed = IsAllRecorded records m
IsPutFault records m name DuplicateImport = IsNameRecorded records m name
IsPutFault records m name f = ⊥

-- a module of the component is all of this module: recorded after all others, or recorded already
abbrev pub IsWholePut : Records → Records → List ℕ → WhichView → Type 0
IsWholePut old new m which =
    ((lookup (bytes_eq m) old ≡ None) × (new ≡ old ++ (m, all_of which) ∷ []))
    ⊎ ((lookup (bytes_eq m) old ≡ Some (all_of which)) × (new ≡ old))

-- why a module of the component is not recorded as all of a module, by what is recorded of the module
abbrev pub IsInstanceFault : InstanceRecord → WhichView → ValidateFault → Type 0
IsInstanceFault (all_of other) which WholeDiffers = other ≢ which
IsInstanceFault (names_of names) which Mixed = Unit {0}
IsInstanceFault instance which f = ⊥

abbrev pub IsWholeFault : Records → List ℕ → WhichView → ValidateFault → Type 0
IsWholeFault records m which Memory = Unit {0}
IsWholeFault records m which f = (instance : InstanceRecord) × (lookup (bytes_eq m) records ≡ Some instance) × IsInstanceFault instance which f

-- records are those of entries
abbrev pub AreRecordsOf : List (String Global × ImportInstance) → List Entry → Type 0
AreRecordsOf instances entries = map instance_entry instances ≡ by_modules entries

-- an import, or all of a module of the component, is put beside what is recorded; and why it is not
abbrev pub IsPutAs : List (String Global × ImportInstance) → List (String Global × ImportInstance) → List ℕ → List ℕ → Import → Type 0
IsPutAs old new m name i = map instance_entry new ≡ put_in (map instance_entry old) m name (import_view i)

abbrev pub IsPutWhole : List (String Global × ImportInstance) → List (String Global × ImportInstance) → List ℕ → MainOrAdapter → Type 0
IsPutWhole old new m which = IsWholePut (map instance_entry old) (map instance_entry new) m (which_view which)

abbrev pub IsRefusedWhole : List (String Global × ImportInstance) → List ℕ → MainOrAdapter → ValidateFault → Type 0
IsRefusedWhole old m which f = IsWholeFault (map instance_entry old) m (which_view which) f

-- an import was recorded as the entry after others
abbrev pub IsRecordedAs : {T F : Type 0} → List (String Global × ImportInstance) → List (String Global × ImportInstance) → List ℕ → List ℕ → Import → Result T F → Type 0
IsRecordedAs old new m name i result =
    (before : List Entry) → AreRecordsOf old before → OnOk result (AreRecordsOf new (before ++ single m name (import_view i) ∷ []))
