-- Why a component has no world, in the order of the steps: the main module; then the adapters in order, each before it
-- is trimmed, as it is trimmed, after that, and by its pages. And at which of these steps an allocation failed.
use Rattle.std.specs.Prelude.{◌≡◌, ◌≢◌, ◌⊎◌, ℕ, List, ◌∷◌, ◌++◌, All, Some, None, string_bytes}
use Rattle.wc_read.specs.declared.types.MemoryType.{MemoryType}
use Rattle.wc_encoder.specs.EncoderParts.{EncoderView}
use Rattle.wc_gc.specs.TrimmedText.{IsTrimmed}
use Rattle.wc_gc.specs.Trim.{IsTrimFault}
use Rattle.wc_gc.specs.declared.fault.GcFault.{GcFault}
use Rattle.wc_gc.specs.declared.fault.GcFault.TheVariants.{Memory as trim_memory}
use Rattle.wc_validate.specs.Imports.Map.{memory_in}
use Rattle.wc_validate.specs.Validate.{IsValidateCause, IsRecordOf, ValidationInput, ModuleRecord, main_input}
use Rattle.wc_validate.specs.declared.fault.ValidateFault.{ValidateFault}
use Rattle.wc_validate.specs.declared.fault.ValidateFault.TheVariants.{Memory as module_memory}
use Rattle.wc_world.specs.Trimming.{NamedAdapter, validation_input_of, needed_adapters, main_page_size, page_size}
use Rattle.wc_world.specs.Restricted.{IsCollision}
use Rattle.wc_world.specs.Views.{NamedWorldAdapter, WorldAdapterView}
use Rattle.wc_world.specs.World.{IsAdapterOf, IsTrimmedOrLibrary, settings_of, adapter_trim_input}
use Rattle.wc_world.specs.declared.fault.WorldFault.{WorldFault}
use Rattle.wc_world.specs.declared.fault.WorldFault.TheVariants.{Memory, Main, Adapter, Trim, Minimized, PageSize}

-- a module is refused by a fault other than Memory
abbrev pub IsRefused : ValidationInput → List ℕ → ValidateFault → Type 0
IsRefused j bytes f = (f ≢ module_memory) × IsValidateCause j bytes f

-- an adapter is to be trimmed: it is no library, and valid
pub record IsTrimReached (e : EncoderView) (main : ModuleRecord) (x : NamedAdapter) : Type 0 where
  pub first : ModuleRecord
  pub trims : x.1.library_info ≡ None
  pub original : IsRecordOf (validation_input_of e main x) x.1.wasm first

-- an adapter is trimmed
pub record IsMinimizedReached (e : EncoderView) (main : ModuleRecord) (x : NamedAdapter) : Type 0 where
  pub valid : IsTrimReached e main x
  pub text : List ℕ
  pub trimmed : IsTrimmed (settings_of e main valid.first) (adapter_trim_input main x valid.first) text

-- an adapter that is valid is not trimmed
pub record IsUntrimmed (e : EncoderView) (main : ModuleRecord) (x : NamedAdapter) (f : GcFault) : Type 0 where
  pub valid : IsTrimReached e main x
  pub stopped : IsTrimFault (settings_of e main valid.first) (adapter_trim_input main x valid.first) f
  pub no_memory : f ≢ trim_memory

-- an adapter that is valid is trimmed, and its bytes are refused: they import one name of the main module twice
pub record IsMinimizedFault (e : EncoderView) (main : ModuleRecord) (x : NamedAdapter) (f : ValidateFault) : Type 0 where
  pub reached : IsMinimizedReached e main x
  pub refused : IsRefused (validation_input_of e main x) reached.text f
  pub collides : IsCollision reached.text f

-- the pages of an adapter's memory are not those of the main module's
pub record IsPageFault (e : EncoderView) (main : ModuleRecord) (x : NamedAdapter) (own : ℕ) (mains : ℕ) : Type 0 where
  pub adapter : WorldAdapterView
  pub memory : MemoryType
  pub is_adapter : IsTrimmedOrLibrary e main x adapter x.1.library_info
  pub imported : memory_in adapter.info.imports ≡ Some memory
  pub is_own : own ≡ page_size memory
  pub is_main : mains ≡ main_page_size main.exports
  pub differ : own ≢ mains

-- the cause of a fault of one adapter
abbrev pub IsFaultOf : EncoderView → ModuleRecord → NamedAdapter → WorldFault → Type 0
IsFaultOf e main x Memory = ⊥
IsFaultOf e main x (Main f) = ⊥
IsFaultOf e main x (Adapter name f) = (string_bytes name ≡ x.0) × IsRefused (validation_input_of e main x) x.1.wasm f
IsFaultOf e main x (Trim name f) = (string_bytes name ≡ x.0) × IsUntrimmed e main x f
IsFaultOf e main x (Minimized name f) = (string_bytes name ≡ x.0) × IsMinimizedFault e main x f
IsFaultOf e main x (PageSize name own mains) = (string_bytes name ≡ x.0) × IsPageFault e main x own mains

-- an allocation failed at a step of one adapter that was reached: as it was read, trimmed, or read again
abbrev pub IsMemoryOf : EncoderView → ModuleRecord → NamedAdapter → WorldFault → Type 0
IsMemoryOf e main x Memory = ⊥
IsMemoryOf e main x (Main f) = ⊥
IsMemoryOf e main x (Adapter name f) = (string_bytes name ≡ x.0) × (f ≡ module_memory)
IsMemoryOf e main x (Trim name f) = (string_bytes name ≡ x.0) × (f ≡ trim_memory) × IsTrimReached e main x
IsMemoryOf e main x (Minimized name f) = (string_bytes name ≡ x.0) × (f ≡ module_memory) × IsMinimizedReached e main x
IsMemoryOf e main x (PageSize name own mains) = ⊥

-- the cause of a fault of one adapter, or an allocation failed at a step of it
abbrev pub IsStopOf : EncoderView → ModuleRecord → NamedAdapter → WorldFault → Type 0
IsStopOf e main x f = IsFaultOf e main x f ⊎ IsMemoryOf e main x f

-- nothing is wrong with an adapter
abbrev pub IsValidAdapter : EncoderView → ModuleRecord → NamedAdapter → Type 0
IsValidAdapter e main x = (y : NamedWorldAdapter) × IsAdapterOf e main x y

-- a fact holds of one of some adapters, and nothing is wrong with those before it
pub record IsFirst (e : EncoderView) (main : ModuleRecord) (xs : List NamedAdapter) (P : NamedAdapter → Type 0) : Type 0 where
  pub front : List NamedAdapter
  pub adapter : NamedAdapter
  pub back : List NamedAdapter
  pub cut : xs ≡ front ++ adapter ∷ back
  pub are_valid : All (IsValidAdapter e main) front
  pub here : P adapter

-- the cause of a fault of the first needed adapter with which something is wrong; that an allocation failed at a step
-- of it; either
abbrev pub IsFirstFault : EncoderView → ModuleRecord → WorldFault → Type 0
IsFirstFault e main f = IsFirst e main (needed_adapters e main) (λ x. IsFaultOf e main x f)

abbrev pub IsReachedMemory : EncoderView → ModuleRecord → WorldFault → Type 0
IsReachedMemory e main f = IsFirst e main (needed_adapters e main) (λ x. IsMemoryOf e main x f)

-- the cause of a fault of the adapters: of the first needed one that has one, the main module being valid
pub record IsAdaptersCause (e : EncoderView) (f : WorldFault) : Type 0 where
  pub main : ModuleRecord
  pub recorded : IsRecordOf (main_input e e.module_import_map) e.module_bytes main
  pub first : IsFirstFault e main f

-- the cause of each fault but those of memory: the main module is refused, or else an adapter
abbrev pub IsComponentWorldCause : EncoderView → WorldFault → Type 0
IsComponentWorldCause e (Main f) = IsRefused (main_input e e.module_import_map) e.module_bytes f
IsComponentWorldCause e f = IsAdaptersCause e f

-- an allocation failed at a step of an adapter, the main module being valid
pub record IsAdaptersMemory (e : EncoderView) (f : WorldFault) : Type 0 where
  pub main : ModuleRecord
  pub recorded : IsRecordOf (main_input e e.module_import_map) e.module_bytes main
  pub first : IsReachedMemory e main f

-- an allocation failed: at any step; or, as a fault that another one carries, at the step of that one, which was reached
abbrev pub IsMemory : EncoderView → WorldFault → Type 0
IsMemory e Memory = Unit {0}
IsMemory e (Main f) = f ≡ module_memory
IsMemory e f = IsAdaptersMemory e f

-- no fault but those of memory has a cause
abbrev pub HasNoCause : EncoderView → Type 0
HasNoCause e = (f : WorldFault) → ¬ IsComponentWorldCause e f
