-- An adapter or a library as an encoder has it, and the main module for which it is trimmed.
use Rattle.std.specs.Prelude.{◌≡◌, ℕ, List, Option, true}
use Rattle.std.specs.Borrow.{Bor}
use Rattle.wc_read.specs.Types.{FuncTypeValue}
use Rattle.wc_adapters.specs.Adapters.{adapter_view}
use Rattle.wc_adapters.specs.declared.adapters.LibraryInfo.{LibraryInfo}
use Rattle.wc_validate.specs.Imports.Map.{required_in}
use Rattle.wc_validate.specs.Validate.{IsRecordOf, ModuleRecord, ValidationInput, adapter_input_of, module_record}
use Rattle.wc_world.specs.Trimming.{NamedAdapter, is_adapter_needed, validation_input_of}
use Rattle.wc_world.specs.Restricted.{IsTrimFor}
use Rattle.wc_world.specs.Views.{WorldAdapterView}
use Rattle.wc_world.specs.World.{IsAdapterOf, IsTrimmedOrLibrary, settings_of, adapter_trim_input, IsTrimmedAdapter}
use Rattle.wc_world.specs.declared.adapters.AdapterInput.{AdapterInput}
use Rattle.wc_world.specs.WorldViews.{required_view}

abbrev pub named_adapter : AdapterInput → NamedAdapter
named_adapter g = (g.name.now, adapter_view g.adapter.now)

abbrev pub main_of : AdapterInput → ModuleRecord
main_of g = module_record g.main.now

abbrev pub required_of : AdapterInput → List (List ℕ × FuncTypeValue)
required_of g = required_view g.required.now

-- what its bytes are validated for, as an adapter, or as a library that is instantiated so
abbrev pub validated_as : AdapterInput → Option (Bor LibraryInfo) → ValidationInput
validated_as g library = adapter_input_of g.encoder.now library g.adapter.now.required_exports.keys g.required.now.entries

-- the component needs the adapter, and what is required of it is what the main module imports from it; the interfaces
-- are those of the encoder
pub record IsNeeded (g : AdapterInput) : Type 0 where
  pub same : g.interfaces.now ≡ g.encoder.now
  pub required : required_of g ≡ required_in g.main.now.imports g.name.now
  pub in_component : is_adapter_needed g.encoder.now (main_of g) (named_adapter g) ≡ true

-- what bytes are recorded as, by what the adapter is validated for
abbrev pub IsInputRecord : AdapterInput → List ℕ → ModuleRecord → Type 0
IsInputRecord g bytes r = IsRecordOf (validation_input_of g.encoder.now (main_of g) (named_adapter g)) bytes r

-- the text to which the adapter is trimmed without a fault, by what is recorded of it
abbrev pub IsInputTrimmedText : AdapterInput → ModuleRecord → List ℕ → Type 0
IsInputTrimmedText g first text =
    IsTrimFor g.encoder.now (validation_input_of g.encoder.now (main_of g) (named_adapter g)) (settings_of g.encoder.now (main_of g) first)
    (adapter_trim_input (main_of g) (named_adapter g) first) text first

-- what the adapter is in the world of a component, trimmed
abbrev pub IsTrimmedInput : AdapterInput → WorldAdapterView → Type 0
IsTrimmedInput g a = IsTrimmedAdapter g.encoder.now (main_of g) (named_adapter g) a

-- what the adapter or library is in the world of a component; and what it is but for its pages
abbrev pub IsAdapterOfInput : AdapterInput → WorldAdapterView → Type 0
IsAdapterOfInput g a = IsAdapterOf g.encoder.now (main_of g) (named_adapter g) (g.name.now, a)

abbrev pub IsInputTrimmedOrLibrary : AdapterInput → WorldAdapterView → Type 0
IsInputTrimmedOrLibrary g a = IsTrimmedOrLibrary g.encoder.now (main_of g) (named_adapter g) a (named_adapter g).1.library_info
