-- The world of a component: what it is made of, for an encoder and options.
use Rattle.std.specs.Prelude.{◌≡◌, List, Option, None, Some, IfSome, filter, true, ◌++◌, ◌∷◌, [], All, Result, OnOk}
use Rattle.std.specs.List.{AllZip}
use Rattle.wc_read.specs.declared.types.MemoryType.{MemoryType}
use Rattle.wc_adapters.specs.Adapters.{LibraryView}
use Rattle.wc_encoder.specs.EncoderParts.{EncoderView, world_exports}
use Rattle.wc_gc.specs.LiveItems.{TrimInput}
use Rattle.wc_gc.specs.Parts.{SettingsView}
use Rattle.wc_gc.specs.TrimmedText.{IsTrimmed}
use Rattle.wc_validate.specs.Imports.Map.{memory_in, required_in}
use Rattle.wc_validate.specs.Validate.{IsRecordOf, ModuleRecord, main_input}
use Rattle.wc_world.specs.Trimming.{NamedAdapter, is_adapter_needed, validation_input_of, main_page_size, main_realloc, page_size, required_names, trim_page_size_log2, HasOtherName}
use Rattle.wc_world.specs.Live.{AreLive}
use Rattle.wc_world.specs.Lowering.{lowered}
use Rattle.wc_world.specs.Options.{OptionsOf}
use Rattle.wc_world.specs.Restricted.{IsRestrictedTrim}
use Rattle.wc_world.specs.Used.{AreUsed}
use Rattle.wc_world.specs.Views.{ComponentWorldView, NamedWorldAdapter, WorldAdapterView}

-- what is recorded of the main module
abbrev pub IsMainRecord : EncoderView → ModuleRecord → Type 0
IsMainRecord e r = IsRecordOf (main_input e e.module_import_map) e.module_bytes r

-- what an adapter is trimmed by: its bytes, and the exports that are required of it
abbrev pub adapter_trim_input : ModuleRecord → NamedAdapter → ModuleRecord → TrimInput
adapter_trim_input main x first = record { bytes = x.1.wasm; required = required_names (required_in main.imports x.0) first.exports }

-- how an adapter is trimmed: by the main module's realloc, and by the pages of the memory that the adapter imports
abbrev pub settings_of : EncoderView → ModuleRecord → ModuleRecord → SettingsView
settings_of e main first = record {
  realloc = main_realloc e.realloc_via_memory_grow main.exports;
  page_size_log2 = trim_page_size_log2 (memory_in first.imports);
}

-- an adapter that is trimmed: it is valid, its bytes are trimmed, so that each item unfolds as before, and these bytes are
-- valid; what is recorded of them is what is recorded of the adapter, restricted
pub record IsTrimmedAdapter (e : EncoderView) (main : ModuleRecord) (x : NamedAdapter) (w : WorldAdapterView) : Type 0 where
  pub first : ModuleRecord
  pub original : IsRecordOf (validation_input_of e main x) x.1.wasm first
  pub trimmed : IsTrimmed (settings_of e main first) (adapter_trim_input main x first) w.wasm
  pub last : IsRecordOf (validation_input_of e main x) w.wasm w.info
  pub restricted : IsRestrictedTrim (settings_of e main first) (adapter_trim_input main x first) w.wasm first w.info

-- a library in the world of a component: its bytes are those of the encoder, borrowed, and valid
pub record IsBorrowedLibrary (e : EncoderView) (main : ModuleRecord) (x : NamedAdapter) (w : WorldAdapterView) : Type 0 where
  pub same_bytes : w.wasm ≡ x.1.wasm
  pub borrowed : w.is_borrowed ≡ true
  pub recorded : IsRecordOf (validation_input_of e main x) w.wasm w.info

-- a trimmed adapter, or a library where there is library information
abbrev pub IsTrimmedOrLibrary : EncoderView → ModuleRecord → NamedAdapter → WorldAdapterView → Option LibraryView → Type 0
IsTrimmedOrLibrary e main x w None = IsTrimmedAdapter e main x w
IsTrimmedOrLibrary e main x w (Some library) = IsBorrowedLibrary e main x w

-- the pages of the memory that a module imports are those of the main module's memory
abbrev pub HasMainPages : ModuleRecord → ModuleRecord → Type 0
HasMainPages main info = IfSome (memory_in info.imports) (λ (t : MemoryType). page_size t ≡ main_page_size main.exports)

-- what an adapter is in the component's world: under its name, with its library information
pub record IsAdapterOf (e : EncoderView) (main : ModuleRecord) (x : NamedAdapter) (y : NamedWorldAdapter) : Type 0 where
  pub named : y.0 ≡ x.0
  pub library : y.1.library_info ≡ x.1.library_info
  pub is_adapter : IsTrimmedOrLibrary e main x y.1 x.1.library_info
  pub paged : HasMainPages main y.1.info

-- exactly those of some adapters that are needed, in order; and those of all adapters
abbrev pub AreAdaptersAmong : EncoderView → ModuleRecord → List NamedAdapter → List NamedWorldAdapter → Type 0
AreAdaptersAmong e main xs ys = AllZip (IsAdapterOf e main) (filter (is_adapter_needed e main) xs) ys

abbrev pub AreAdapters : EncoderView → ModuleRecord → List NamedWorldAdapter → Type 0
AreAdapters e main ys = AreAdaptersAmong e main e.adapters ys

-- on success an adapter is added, if it is needed, after those before it, which have other names
abbrev pub AddsAdapterOnOk : {T E : Type 0} → Result T E → EncoderView → ModuleRecord → NamedAdapter → List NamedWorldAdapter → List NamedWorldAdapter → Type 0
AddsAdapterOnOk result e main x old new = (before : List NamedAdapter) → All (HasOtherName x.0) before → AreAdaptersAmong e main before old → OnOk result (AreAdaptersAmong e main (before ++ x ∷ []) new)

-- The imports and exports of the main module are recorded. The adapters are those that are needed: of each one that is
-- trimmed the bytes spell its edited original, cut to what its required exports reach and renamed by rank, each export
-- unfolds in them as in the edited original, and the imports and exports of these bytes are recorded. Lowerings, exports
-- used and live types are what the definitions give.
pub record IsWorldOf (options : OptionsOf) (e : EncoderView) (w : ComponentWorldView) : Type 0 where
  pub encoder : w.encoder ≡ e
  pub main : IsMainRecord e w.info
  pub adapters : AreAdapters e w.info w.adapters
  pub lowerings : w.import_map ≡ lowered e options w.info w.adapters
  pub used : AreUsed e.resolve (world_exports e) w.exports_used
  pub live : AreLive e w.exports_used w.info w.adapters w.live_type_imports
