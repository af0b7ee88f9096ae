-- Why nothing can be said of modules, and where.
use Rattle.std.specs.Prelude.{◌≡◌, ◌⊎◌, ℕ, ◌+◌, ◌-◌, ◌^◌, min, Bool, true, false, List, [], Contains, Option, Some, None}
use Rattle.std.specs.Option.{option_map}
use Rattle.wc_gc.specs.LiveItems.{IsFault, IsLivenessCause}
use Rattle.wc_gc.specs.TrimPlace.{IsExplained}
use Rattle.wc_gc.specs.declared.fault.GcFault.{GcFault}
use Rattle.wc_gc.specs.declared.fault.GcFault.TheVariants.{Memory}
use Rattle.wc_gc.specs.declared.trim_place.TrimPlace.{TrimPlace}
use Rattle.wc_gc.specs.declared.trim_place.TrimPlace.TheVariants.{Bytes, Section, Body}
use Rattle.wc_import_paths.specs.Following.{IsCodeRefusal, IsRefusal}
use Rattle.wc_module_ways.specs.Adapters.{AdapterView, Given, given_view, search_input}
use Rattle.wc_import_paths.specs.MainModules.{IsMainRefusal}
use Rattle.wc_module_ways.specs.CoreModules.{CoreGiven, is_library_kind}
use Rattle.wc_module_ways.specs.Modules.{InputView}
use Rattle.wc_module_ways.specs.declared.refusals.ModulesRefusal.{ModulesRefusal}

-- the adapter that is at fault; none for the main module, and for another core module
abbrev pub adapter_in : ModulesRefusal → Option Given
adapter_in r = option_map given_view r.adapter

-- a place in a module that lies at this offset in its file
abbrev pub moved : ℕ → Option TrimPlace → Option TrimPlace
moved offset None = None
moved offset (Some (Bytes p)) = Some (Bytes (record { offset = min (offset + p.offset) (2 ^ 64 - 1); section = p.section }))
moved offset (Some (Section id)) = Some (Section id)
moved offset (Some (Body function operator)) = Some (Body function operator)

-- a refusal of the main module, of an adapter, or of the core module at a position, with this fault and place

abbrev pub IsOfMain : GcFault → Option TrimPlace → ModulesRefusal → Type 0
IsOfMain f place r = (adapter_in r ≡ None) × (r.core ≡ None) × (r.fault ≡ f) × (r.place ≡ place)

abbrev pub IsOfAdapter : List ℕ → List ℕ → GcFault → Option TrimPlace → ModulesRefusal → Type 0
IsOfAdapter name bytes f place r = (adapter_in r ≡ Some (name, bytes)) × (r.core ≡ None) × (r.fault ≡ f) × (r.place ≡ place)

abbrev pub IsOfCore : ℕ → GcFault → Option TrimPlace → ModulesRefusal → Type 0
IsOfCore index f place r = (adapter_in r ≡ None) × (r.core ≡ Some index) × (r.fault ≡ f) × (r.place ≡ place)

-- the bytes of an adapter are no module, from this byte on
abbrev pub IsAdapterUnread : List ℕ → GcFault → Option TrimPlace → Type 0
IsAdapterUnread bytes f place = IsCodeRefusal bytes f place

abbrev pub IsGivenRefusal : Given → ModulesRefusal → Type 0
IsGivenRefusal g r = (adapter_in r ≡ Some g) × (r.core ≡ None) × IsAdapterUnread g.1 r.fault r.place

abbrev pub IsAdaptersRefusal : List Given → ModulesRefusal → Type 0
IsAdaptersRefusal given r = (r.fault ≡ Memory) ⊎ ((g : Given) × Contains given g × IsGivenRefusal g r)

-- why bytes are no main module, or none that is followed, if it has to be
abbrev pub IsMainFault : Bool → List ℕ → List (List ℕ) → GcFault → Option TrimPlace → Type 0
IsMainFault false main exports f place = IsMainRefusal main exports f place
IsMainFault true main exports f place = IsRefusal main exports f place

-- the same of the main module at its offset
abbrev pub IsMainRefused : InputView → ModulesRefusal → Type 0
IsMainRefused i r =
    (adapter_in r ≡ None) × (r.core ≡ None) × (place : Option TrimPlace) × IsMainFault i.is_whole i.main i.exports r.fault place
    × (r.place ≡ moved i.main_offset place)

-- why the bytes of a core module can't be followed from all its exports; of a library, why they are no module
abbrev pub IsCoreFault : Bool → List ℕ → GcFault → Option TrimPlace → Type 0
IsCoreFault false bytes f place = IsRefusal bytes [] f place
IsCoreFault true bytes f place = IsCodeRefusal bytes f place

-- a core module is refused, at a place in the component's file; or memory ran out, or one of some is
abbrev pub IsCoreRefused : CoreGiven → ModulesRefusal → Type 0
IsCoreRefused g r =
    (adapter_in r ≡ None) × (r.core ≡ Some g.index) × (place : Option TrimPlace) × IsCoreFault (is_library_kind g.kind) g.bytes r.fault place
    × (r.place ≡ moved g.offset place)

abbrev pub IsCoreRefusal : List CoreGiven → ModulesRefusal → Type 0
IsCoreRefusal given r = (r.fault ≡ Memory) ⊎ ((g : CoreGiven) × Contains given g × IsCoreRefused g r)

-- an adapter, or another core module, is refused
abbrev pub IsOthersRefusal : InputView → ModulesRefusal → Type 0
IsOthersRefusal i r = IsAdaptersRefusal i.adapters r ⊎ IsCoreRefusal i.core r

-- memory ran out; or the main module, an adapter, or another core module, is refused
abbrev pub IsReadRefusal : InputView → ModulesRefusal → Type 0
IsReadRefusal i r = IsMainRefused i r ⊎ IsOthersRefusal i r

-- an adapter has this fault, which comes before other ones of it, at this place
abbrev pub IsAdapterFault : AdapterView → ModulesRefusal → Type 0
IsAdapterFault a r =
    (adapter_in r ≡ Some (a.name, a.bytes)) × (r.core ≡ None) × IsFault (search_input a) r.fault × IsExplained (search_input a) r.fault r.place

-- memory ran out; or this adapter, or one of these, has the fault
abbrev pub IsThisRefusal : AdapterView → ModulesRefusal → Type 0
IsThisRefusal a r = (r.fault ≡ Memory) ⊎ IsAdapterFault a r

abbrev pub IsWaysRefusal : List AdapterView → ModulesRefusal → Type 0
IsWaysRefusal adapters r = (r.fault ≡ Memory) ⊎ ((a : AdapterView) × Contains adapters a × IsAdapterFault a r)

-- an adapter can be trimmed for what is required of it
abbrev pub HasNoCause : AdapterView → Type 0
HasNoCause a = (f : GcFault) → ¬ (IsLivenessCause (search_input a) f)
