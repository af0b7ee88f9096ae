-- What a fault of a component's world is about: a place in the main module; or in the adapter that the fault names, as the
-- encoder has it, or as it is trimmed; or the sizes of pages.
use Rattle.std.specs.Prelude.{◌≡◌, ℕ, List, MatchOption, Option, Some, None, string_bytes, true}
use Rattle.std.specs.Map.{lookup}
use Rattle.std.specs.Option.{option_map}
use Rattle.std.specs.Str.{bytes_eq}
use Rattle.wc_adapters.specs.Adapters.{AdapterView}
use Rattle.wc_encoder.specs.EncoderParts.{EncoderView}
use Rattle.wc_gc.specs.LiveItems.{TrimInput}
use Rattle.wc_gc.specs.TrimPlace.{IsPlace as IsPlaceOfTrim}
use Rattle.wc_gc.specs.declared.fault.GcFault.{GcFault}
use Rattle.wc_gc.specs.declared.trim_place.TrimPlace.{TrimPlace}
use Rattle.wc_read.specs.Place.{IsCausePlace, IsPlaceIn}
use Rattle.wc_read.specs.declared.fault.ReadFault.{ReadFault}
use Rattle.wc_read.specs.declared.place.ReadPlace.{ReadPlace}
use Rattle.wc_validate.specs.Explain.{IsPlace, PlaceView, place_view}
use Rattle.wc_validate.specs.Refused.{bytes_place}
use Rattle.wc_validate.specs.Validate.{ModuleRecord, ValidationInput, main_input}
use Rattle.wc_validate.specs.declared.fault.ValidateFault.{ValidateFault}
use Rattle.wc_validate.specs.declared.fault.ValidateFault.TheVariants.{Read}
use Rattle.wc_world.specs.Trimming.{NamedAdapter, is_adapter_needed, validation_input_of}
use Rattle.wc_world.specs.Causes.{IsMinimizedReached, IsTrimReached}
use Rattle.wc_world.specs.World.{IsMainRecord, adapter_trim_input}
use Rattle.wc_world.specs.declared.fault.WorldFault.{WorldFault}
use Rattle.wc_world.specs.declared.fault.WorldFault.TheVariants.{Memory, Main, Adapter, Trim, Minimized, PageSize}
use Rattle.wc_world.specs.declared.places.ModulePlace.{ModulePlace}
use Rattle.wc_world.specs.declared.places.ModulePlace.TheVariants as place
use Rattle.wc_world.specs.declared.places.WorldPlace.{WorldPlace}

-- the place of a fault of validation; and of a fault of trimming
abbrev pub IsValidationPlace : ValidationInput → List ℕ → ValidateFault → ModulePlace → Type 0
IsValidationPlace j bytes f (place.Validation p) = IsPlace j bytes f (place_view p)
IsValidationPlace j bytes f p = ⊥

abbrev pub IsTrimmingPlace : TrimInput → GcFault → ModulePlace → Type 0
IsTrimmingPlace w f (place.Trim p) = IsPlaceOfTrim w f p
IsTrimmingPlace w f p = ⊥

-- the fault of reading that a fault of validation carries
abbrev pub read_fault_in : ValidateFault → Option ReadFault
read_fault_in (Read f) = Some f
read_fault_in f = None

-- a byte of the main module as it was given, before its imports were renamed: the one that a fault of reading is about
abbrev pub IsGivenByte : EncoderView → ReadFault → PlaceView → Type 0
IsGivenByte e f p = (q : ReadPlace) × IsPlaceIn e.given_bytes q × IsCausePlace e.given_bytes f q × (p ≡ place_view (bytes_place q))

-- the place of a fault of the main module: of a fault of reading a byte of it as it was given; else an import or an export of it
abbrev pub IsMainPlace : EncoderView → ValidateFault → PlaceView → Type 0
IsMainPlace e f p = MatchOption (read_fault_in f) (IsPlace (main_input e e.module_import_map) e.module_bytes f p) (λ read. IsGivenByte e read p)

abbrev pub IsPlaceOfMain : EncoderView → ValidateFault → ModulePlace → Type 0
IsPlaceOfMain e f (place.Validation p) = IsMainPlace e f (place_view p)
IsPlaceOfMain e f p = ⊥

-- the encoder has an adapter under a name, and the component needs it
abbrev pub IsNeededUnder : EncoderView → ModuleRecord → List ℕ → AdapterView → Type 0
IsNeededUnder e main name a = (lookup (bytes_eq name) e.adapters ≡ Some a) × (is_adapter_needed e main (name, a) ≡ true)

-- a fact of the adapter of a name, which the component needs, and of what is recorded of the main module
abbrev pub IsOfAdapter : EncoderView → List ℕ → (ModuleRecord → NamedAdapter → Type 0) → Type 0
IsOfAdapter e name P = (main : ModuleRecord) × IsMainRecord e main × (a : AdapterView) × IsNeededUnder e main name a × P main (name, a)

-- the place of a fault of an adapter as the encoder has it
abbrev pub IsOriginalPlace : EncoderView → ValidateFault → ModulePlace → ModuleRecord → NamedAdapter → Type 0
IsOriginalPlace e f p main x = IsValidationPlace (validation_input_of e main x) x.1.wasm f p

-- the same as it is to be trimmed; and that there is none
abbrev pub IsTrimPlace : EncoderView → GcFault → ModulePlace → ModuleRecord → NamedAdapter → Type 0
IsTrimPlace e f p main x = (reached : IsTrimReached e main x) × IsTrimmingPlace (adapter_trim_input main x reached.first) f p

abbrev pub IsTrimUnplaced : EncoderView → GcFault → ModuleRecord → NamedAdapter → Type 0
IsTrimUnplaced e f main x = (reached : IsTrimReached e main x) × ((p : TrimPlace) → ¬ IsPlaceOfTrim (adapter_trim_input main x reached.first) f p)

-- the same as it is trimmed
abbrev pub IsMinimizedPlace : EncoderView → ValidateFault → ModulePlace → ModuleRecord → NamedAdapter → Type 0
IsMinimizedPlace e f p main x = (reached : IsMinimizedReached e main x) × IsValidationPlace (validation_input_of e main x) reached.text f p

-- a place in the main module; and in the adapter of a name
abbrev pub IsInMain : WorldPlace → Type 0
IsInMain p = p.adapter ≡ None

abbrev pub IsInAdapter : List ℕ → WorldPlace → Type 0
IsInAdapter name p = option_map string_bytes p.adapter ≡ Some name

-- the place of a fault
abbrev pub IsWorldPlace : EncoderView → WorldFault → WorldPlace → Type 0
IsWorldPlace e (Main f) p = IsInMain p × IsPlaceOfMain e f p.place
IsWorldPlace e (Adapter name f) p = IsInAdapter (string_bytes name) p × IsOfAdapter e (string_bytes name) (IsOriginalPlace e f p.place)
IsWorldPlace e (Trim name f) p = IsInAdapter (string_bytes name) p × IsOfAdapter e (string_bytes name) (IsTrimPlace e f p.place)
IsWorldPlace e (Minimized name f) p = IsInAdapter (string_bytes name) p × IsOfAdapter e (string_bytes name) (IsMinimizedPlace e f p.place)
IsWorldPlace e (PageSize name own mains) p = IsInAdapter (string_bytes name) p × (p.place ≡ place.PageSizes own mains)
IsWorldPlace e Memory p = ⊥
