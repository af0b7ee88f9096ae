-- A component that has no world: its fault, and what that is about.
use Rattle.std.specs.Prelude.{◌≡◌, ◌⊎◌, ℕ, List, IsSomeAnd, MatchOption, None, Option, Some, String, string_bytes}
use Rattle.std.specs.Option.{option_map}
use Rattle.std.specs.declared.alloc.Global.{Global}
use Rattle.wc_texts.specs.declared.refused.Refused.{Refused}
use Rattle.wc_encoder.specs.EncoderParts.{EncoderView}
use Rattle.wc_validate.specs.Explain.{place_view}
use Rattle.wc_validate.specs.Refused.{HasNoPlace as HasNoPlaceInModule, IsMemoryRefusal as IsMemoryOfModule, RefusedModule}
use Rattle.wc_validate.specs.declared.place.Place.{Place}
use Rattle.wc_world.specs.Places.{IsGivenByte, IsInAdapter, IsInMain, IsOfAdapter, IsTrimUnplaced, IsWorldPlace, read_fault_in}
use Rattle.wc_world.specs.declared.fault.WorldFault.{WorldFault}
use Rattle.wc_world.specs.declared.fault.WorldFault.TheVariants.{Memory, Main, Adapter, Trim, Minimized, PageSize}
use Rattle.wc_world.specs.declared.places.ModulePlace.{ModulePlace}
use Rattle.wc_world.specs.declared.places.ModulePlace.TheVariants as place
use Rattle.wc_world.specs.declared.places.WorldPlace.{WorldPlace}

-- a fault of a component's world, and its place
abbrev pub RefusedWorld : Type 0
RefusedWorld = Refused WorldFault WorldPlace

-- a fault is about nothing that has a place
abbrev pub HasNoPlace : EncoderView → WorldFault → Type 0
HasNoPlace e Memory = Unit {0}
HasNoPlace e (Main f) = HasNoPlaceInModule f
HasNoPlace e (Adapter name f) = HasNoPlaceInModule f
HasNoPlace e (Trim name f) = IsOfAdapter e (string_bytes name) (IsTrimUnplaced e f)
HasNoPlace e (Minimized name f) = HasNoPlaceInModule f
HasNoPlace e (PageSize name own mains) = ⊥

-- what is answered of a fault is its place; nothing only where it has none
abbrev pub IsPlaceOrNone : EncoderView → WorldFault → Option WorldPlace → Type 0
IsPlaceOrNone e f answer = MatchOption answer (HasNoPlace e f) (IsWorldPlace e f)

-- a refusal has the place of its fault
abbrev pub IsRefusedAt : EncoderView → RefusedWorld → Type 0
IsRefusedAt e x = IsPlaceOrNone e x.fault x.place

-- an allocation failed
abbrev pub IsMemoryRefusal : RefusedWorld → Type 0
IsMemoryRefusal x = (x.fault ≡ Memory) × (x.place ≡ None)

-- a place that was found in a module of which this is so; nothing, if none was
abbrev pub IsPlaceWith : (WorldPlace → Type 0) → Option ModulePlace → Option WorldPlace → Type 0
IsPlaceWith Q found answer = MatchOption answer (found ≡ None) (λ (p : WorldPlace). Q p × (found ≡ Some p.place))

-- the refusal of the main module, for the one of its bytes: that one; or, of a fault of reading, with a byte of the module as it
-- was given, or else an allocation failed
abbrev pub IsGivenRefusal : EncoderView → RefusedModule → RefusedModule → Type 0
IsGivenRefusal e x y =
    MatchOption (read_fault_in x.fault) (y ≡ x)
    (λ read. IsMemoryOfModule y ⊎ ((y.fault ≡ x.fault) × IsSomeAnd y.place (λ (p : Place). IsGivenByte e read (place_view p))))

-- the refusal of the main module
abbrev pub IsMainRefusal : RefusedModule → RefusedWorld → Type 0
IsMainRefusal m x = (x.fault ≡ Main m.fault) × IsPlaceWith IsInMain (option_map place.Validation m.place) x.place

-- the refusal of the adapter of a name, with a fault that is made of the name; or else an allocation failed
abbrev pub IsNamedRefusal : {X : Type 0} → (String Global → WorldFault) → (X → ModulePlace) → List ℕ → Option X → RefusedWorld → Type 0
IsNamedRefusal make kind name found x =
    IsMemoryRefusal x
    ⊎ ((s : String Global) × (string_bytes s ≡ name) × (x.fault ≡ make s) × IsPlaceWith (IsInAdapter name) (option_map kind found) x.place)

-- the refusal of the adapter or the library of a name, as the encoder has it; or else an allocation failed
abbrev pub IsAdapterRefusal : List ℕ → RefusedModule → RefusedWorld → Type 0
IsAdapterRefusal name m x = IsNamedRefusal (λ s. Adapter s m.fault) place.Validation name m.place x
