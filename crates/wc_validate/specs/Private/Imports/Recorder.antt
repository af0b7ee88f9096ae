-- What is recorded while imports are gone through.
use Rattle.std.specs.Prelude.{◌≡◌, ◌≢◌, ◌⊎◌, IsSomeAnd, ℕ, List, [], ◌∷◌, ◌++◌, map, Option, Some, None, IfErr, OnOk, Result}
use Rattle.wc_read.specs.declared.types.MemoryType.{MemoryType}
use Rattle.wc_read.specs.Types.{FuncTypeValue, func_type_value}
use Rattle.std.specs.Option.{option_map}
use Rattle.wc_names.specs.Views.{ImportView, adapter_export, main_module_memory}
use Rattle.wc_validate.specs.declared.fault.ValidateFault.{ValidateFault}
use Rattle.wc_validate.specs.declared.fault.ValidateFault.TheVariants.{AdapterTypesDiffer, Memory, SeveralMemoryImports}
use Rattle.wc_validate.specs.declared.place.TypeDifference.{TypeDifference}
use Rattle.wc_validate.specs.declared.refused.ImportFault.{ImportFault}
use Rattle.wc_validate.specs.Place.{DifferenceView, difference_view}
use Rattle.wc_validate.specs.declared.imports.recorder.Recorder.{Recorder}
use Rattle.wc_validate.specs.Imports.AdapterTypes.{Agrees, noted_type, type_entry, first_some}
use Rattle.wc_validate.specs.Imports.Entries.{Entry, single, whole, by_modules, memory_type_of, memory_of, adapter_type_of, first_by, adapter_type_in}
use Rattle.wc_validate.specs.Imports.Map.{memory_in}
use Rattle.wc_validate.specs.Imports.Record.{IsEntryFault, IsValidAfter}
use Rattle.wc_validate.specs.Imports.Instances.{instance_entry}

-- the types that a recorder has of functions of adapters
abbrev pub types_in : Recorder → List ℕ → List ℕ → Option FuncTypeValue
types_in r adapter function = noted_type (map type_entry r.adapter_types.entries) adapter function

-- a recorder has these entries: by modules, the memory of them, and the first types of functions of adapters
pub record IsRecorderOf (r : Recorder) (entries : List Entry) : Type 0 where
  pub instances : map instance_entry r.instances.entries ≡ by_modules entries
  pub memory : r.memory ≡ first_by memory_of entries
  pub memory_recorded : memory_in (by_modules entries) ≡ r.memory
  pub types : (adapter function : List ℕ) → types_in r adapter function ≡ first_by (adapter_type_of adapter function) entries

-- an entry was recorded after others
abbrev pub IsRecordedAfter : List Entry → Entry → Recorder → Type 0
IsRecordedAfter before x r = IsValidAfter before x × IsRecorderOf r (before ++ x ∷ [])

-- why an entry was not recorded after others
abbrev pub IsRefusedAfter : List Entry → Entry → ValidateFault → Type 0
IsRefusedAfter before x Memory = Unit {0}
IsRefusedAfter before x f = IsEntryFault before x f

-- the types that the fault of an entry after others compares: the type of the first import of the same function of an adapter,
-- and its own. No other fault of an entry compares types
abbrev pub AreTypesOfEntry : List Entry → Entry → DifferenceView → Type 0
AreTypesOfEntry before (whole m which) d = ⊥
AreTypesOfEntry before (single m name i) d =
    (adapter function : List ℕ) × (i ≡ adapter_export adapter function d.found)
    × (first_by (adapter_type_of adapter function) before ≡ Some d.wanted) × (d.found ≢ d.wanted)

abbrev pub IsTypedAfter : List Entry → Entry → ValidateFault → Option DifferenceView → Type 0
IsTypedAfter before x AdapterTypesDiffer types = IsSomeAnd types (AreTypesOfEntry before x)
IsTypedAfter before x f types = types ≡ None

-- the types that the fault of an import has
abbrev pub types_of : ImportFault → Option DifferenceView
types_of x = option_map difference_view x.types

-- why an entry was not recorded after others, with the types that differ
abbrev pub IsTypedRefusal : List Entry → Entry → ValidateFault → Option DifferenceView → Type 0
IsTypedRefusal before x Memory types = Unit {0}
IsTypedRefusal before x f types = IsEntryFault before x f × IsTypedAfter before x f types

abbrev pub IsRefusedBy : List Entry → Entry → ImportFault → Type 0
IsRefusedBy before x e = IsTypedRefusal before x e.fault (types_of e)

-- the types that differ of a function of an adapter after the type that is noted, if one is: that one, and its own; none where
-- they are the same
abbrev pub IsDifferenceFrom : FuncTypeValue → FuncTypeValue → Option TypeDifference → Type 0
IsDifferenceFrom first ty None = ty ≡ first
IsDifferenceFrom first ty (Some d) = (func_type_value d.wanted ≡ first) × (func_type_value d.found ≡ ty) × (ty ≢ first)

abbrev pub IsDifference : Option FuncTypeValue → FuncTypeValue → Option TypeDifference → Type 0
IsDifference None ty d = d ≡ None
IsDifference (Some first) ty d = IsDifferenceFrom first ty d

abbrev pub IsDifferenceIn : (List ℕ → List ℕ → Option FuncTypeValue) → ImportView → Option TypeDifference → Type 0
IsDifferenceIn noted (adapter_export adapter function ty) d = IsDifference (noted adapter function) ty d
IsDifferenceIn noted i d = d ≡ None

-- the type of a function of an adapter is the one that is noted, if one is
abbrev pub AgreesIn : (List ℕ → List ℕ → Option FuncTypeValue) → ImportView → Type 0
AgreesIn noted (adapter_export adapter function ty) = Agrees (noted adapter function) ty
AgreesIn noted i = Unit {0}

-- the import is no second memory
abbrev pub IsOneMemory : Option MemoryType → ImportView → Type 0
IsOneMemory memory i = (memory_type_of i ≡ None) ⊎ (memory ≡ None)

-- the import is a second memory
abbrev pub IsSecondMemory : Option MemoryType → ImportView → Type 0
IsSecondMemory memory i = (ty other : MemoryType) × (i ≡ main_module_memory ty) × (memory ≡ Some other)

-- why an import is not noted
abbrev pub IsNoteFault : Option MemoryType → ImportView → ValidateFault → Type 0
IsNoteFault memory i Memory = Unit {0}
IsNoteFault memory i SeveralMemoryImports = IsSecondMemory memory i
IsNoteFault memory i f = ⊥

-- an entry was recorded by a recorder after those that it has, or why it was not
abbrev pub IsEntryRecorded : {T F : Type 0} → Recorder → Recorder → Entry → Result T F → Type 0
IsEntryRecorded old new x result = (before : List Entry) → IsRecorderOf old before → OnOk result (IsRecordedAfter before x new)

abbrev pub IsEntryRefused : {T : Type 0} → Recorder → Entry → Result T ImportFault → Type 0
IsEntryRefused old x result = (before : List Entry) → IsRecorderOf old before → IfErr result (IsRefusedBy before x)

-- the type of an import that is a function of an adapter was noted, if none was
abbrev pub AreTypesNoted : Recorder → Recorder → ImportView → Type 0
AreTypesNoted old new i =
    (adapter function : List ℕ) → types_in new adapter function ≡ first_some (types_in old adapter function) (adapter_type_in adapter function i)
