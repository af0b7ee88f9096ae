-- Refusals of the main module and of adapters, as the code makes them.
use Rattle.std.specs.Prelude.{◌≡◌, ◌⊎◌, ℕ, List, MatchOption, Option, true}
use Rattle.wc_encoder.specs.EncoderParts.{EncoderView}
use Rattle.wc_validate.specs.Explain.{IsPlace}
use Rattle.wc_validate.specs.Refused.{HasNoPlace as HasNoPlaceInModule, IsRefusedAt as IsModuleRefusedAt, RefusedModule}
use Rattle.wc_validate.specs.Validate.{IsValidateCause, ModuleRecord, ValidationInput, main_input}
use Rattle.wc_world.specs.Causes.{IsFirst, IsStopOf}
use Rattle.wc_world.specs.Places.{IsInAdapter, IsMainPlace, IsMinimizedPlace, IsNeededUnder, IsOriginalPlace, IsTrimPlace, IsTrimUnplaced}
use Rattle.wc_world.specs.Private.Adapters.{main_of, named_adapter}
use Rattle.wc_world.specs.Refused.{IsMemoryRefusal, RefusedWorld}
pub use Rattle.wc_world.specs.Refused.{IsGivenRefusal, IsMainRefusal, IsNamedRefusal}
use Rattle.wc_world.specs.Trimming.{NamedAdapter, is_adapter_needed, needed_adapters}
use Rattle.wc_world.specs.declared.adapters.AdapterInput.{AdapterInput}
use Rattle.wc_world.specs.declared.fault.WorldFault.{WorldFault}
use Rattle.wc_world.specs.declared.fault.WorldFault.TheVariants.{Adapter, Trim, Minimized, PageSize}
use Rattle.wc_world.specs.declared.places.ModulePlace.{ModulePlace}
use Rattle.wc_world.specs.declared.places.ModulePlace.TheVariants as place
use Rattle.wc_world.specs.declared.places.WorldPlace.{WorldPlace}

-- why bytes are refused, with the place
abbrev pub IsModuleRefusal : ValidationInput → List ℕ → RefusedModule → Type 0
IsModuleRefusal j bytes m = IsValidateCause j bytes m.fault × IsModuleRefusedAt (IsPlace j bytes) m

-- why the main module is refused, with the place
abbrev pub IsRefusalOfMain : EncoderView → RefusedModule → Type 0
IsRefusalOfMain e m = IsValidateCause (main_input e e.module_import_map) e.module_bytes m.fault × IsModuleRefusedAt (IsMainPlace e) m

-- the place of a fault of an adapter; and that it has none
abbrev pub IsPlaceOf : EncoderView → ModuleRecord → NamedAdapter → WorldFault → ModulePlace → Type 0
IsPlaceOf e main x (Adapter name f) p = IsOriginalPlace e f p main x
IsPlaceOf e main x (Trim name f) p = IsTrimPlace e f p main x
IsPlaceOf e main x (Minimized name f) p = IsMinimizedPlace e f p main x
IsPlaceOf e main x (PageSize name own mains) p = p ≡ place.PageSizes own mains
IsPlaceOf e main x f p = ⊥

abbrev pub IsOfNoPlace : EncoderView → ModuleRecord → NamedAdapter → WorldFault → Type 0
IsOfNoPlace e main x (Adapter name f) = HasNoPlaceInModule f
IsOfNoPlace e main x (Trim name f) = IsTrimUnplaced e f main x
IsOfNoPlace e main x (Minimized name f) = HasNoPlaceInModule f
IsOfNoPlace e main x f = ⊥

-- what is answered of a fault of an adapter is its place, under the adapter's name; nothing only where it has none
abbrev pub IsPlacedBy : EncoderView → ModuleRecord → NamedAdapter → WorldFault → Option WorldPlace → Type 0
IsPlacedBy e main x f answer =
    MatchOption answer (IsOfNoPlace e main x f) (λ (p : WorldPlace). IsInAdapter x.0 p × IsPlaceOf e main x f p.place)

-- an adapter is refused with this fault, of this place
abbrev pub IsStopAt : EncoderView → ModuleRecord → NamedAdapter → RefusedWorld → Type 0
IsStopAt e main a x = IsStopOf e main a x.fault × IsPlacedBy e main a x.fault x.place

-- the same of one that is needed; and of the first needed one with which something is wrong
abbrev pub IsNeededStopAt : EncoderView → ModuleRecord → NamedAdapter → RefusedWorld → Type 0
IsNeededStopAt e main a x = (is_adapter_needed e main a ≡ true) × IsStopAt e main a x

abbrev pub IsFirstRefusal : EncoderView → ModuleRecord → RefusedWorld → Type 0
IsFirstRefusal e main x = IsFirst e main (needed_adapters e main) (λ a. IsNeededUnder e main a.0 a.1 × IsStopAt e main a x)

-- why the adapter is not in the world of a component, with the place; or an allocation failed
abbrev pub IsInputRefusal : AdapterInput → RefusedWorld → Type 0
IsInputRefusal g x = IsMemoryRefusal x ⊎ IsStopAt g.encoder.now (main_of g) (named_adapter g) x
