-- A module that is refused: its fault, and what that is about.
use Rattle.std.specs.Prelude.{◌≡◌, MatchOption, None, Option}
use Rattle.std.specs.Option.{option_map}
use Rattle.wc_read.specs.declared.fault.ReadFault.{ReadFault}
use Rattle.wc_read.specs.declared.place.ReadPlace.{ReadPlace}
use Rattle.wc_texts.specs.declared.refused.Refused.{Refused}
use Rattle.wc_validate.specs.declared.fault.ValidateFault.{ValidateFault}
use Rattle.wc_validate.specs.declared.fault.ValidateFault.TheVariants.{Memory}
use Rattle.wc_validate.specs.declared.place.Place.{Place}
use Rattle.wc_validate.specs.declared.place.Subject.TheVariants.{Bytes}
use Rattle.wc_validate.specs.Fault.{of_read}
use Rattle.wc_validate.specs.Place.{PlaceView, place_view}

-- why a module is refused, and what that is about
abbrev pub RefusedModule : Type 0
RefusedModule = Refused ValidateFault Place

-- the fault that is about nothing of a module
abbrev pub HasNoPlace : ValidateFault → Type 0
HasNoPlace Memory = Unit {0}
HasNoPlace f = ⊥

-- what is answered of a fault is its place; nothing only where it has none
abbrev pub IsPlaceOrNone : (ValidateFault → PlaceView → Type 0) → ValidateFault → Option Place → Type 0
IsPlaceOrNone P f answer = MatchOption answer (HasNoPlace f) (λ (p : Place). P f (place_view p))

-- a refusal has the place of its fault
abbrev pub IsRefusedAt : (ValidateFault → PlaceView → Type 0) → RefusedModule → Type 0
IsRefusedAt P x = IsPlaceOrNone P x.fault x.place

-- an allocation failed
abbrev pub IsMemoryRefusal : RefusedModule → Type 0
IsMemoryRefusal x = (x.fault ≡ Memory) × (x.place ≡ None)

-- the bytes are not read
abbrev pub bytes_place : ReadPlace → Place
bytes_place p = record { subject = Bytes p; types = None }

abbrev pub IsReadRefusal : Refused ReadFault ReadPlace → RefusedModule → Type 0
IsReadRefusal r x = (x.fault ≡ of_read r.fault) × (x.place ≡ option_map bytes_place r.place)
