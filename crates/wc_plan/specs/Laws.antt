-- Laws of plans.
use Rattle.std.specs.Prelude.{◌≡◌, IsSome}
use Rattle.std.specs.List.{AllZip}
use Rattle.wc_encoder.specs.EncoderParts.{EncoderView}
use Rattle.wc_world.specs.Options.{OptionsOf}
use Rattle.wc_world.specs.Views.{ComponentWorldView, NamedWorldAdapter}
use Rattle.wc_world.specs.World.{IsWorldOf}
use Rattle.wc_plan.specs.Fault.{HasNoFault, IsFirstFault}
use Rattle.wc_world.specs.Nameable.{AreNameable}
use Rattle.wc_plan.specs.declared.fault.PlanFault.{PlanFault}

-- in a world that is made of an encoder, what is imported can be named
abbrev pub WorldsNameable : EncoderView → Type 0
WorldsNameable e = (options : OptionsOf) (w : ComponentWorldView) → IsWorldOf options e w → AreNameable w

-- two adapters or libraries are the same: their names, bytes, records and library information; and whether the bytes of
-- a library are borrowed, which is said of no trimmed adapter
pub record IsSameAdapter (a b : NamedWorldAdapter) : Type 0 where
  pub named : a.0 ≡ b.0
  pub bytes : a.1.wasm ≡ b.1.wasm
  pub info : a.1.info ≡ b.1.info
  pub library : a.1.library_info ≡ b.1.library_info
  pub borrowed : IsSome a.1.library_info → a.1.is_borrowed ≡ b.1.is_borrowed

-- two worlds are the same
pub record IsSameWorld (w x : ComponentWorldView) : Type 0 where
  pub encoder : w.encoder ≡ x.encoder
  pub main : w.info ≡ x.info
  pub adapters : AllZip IsSameAdapter w.adapters x.adapters
  pub lowerings : w.import_map ≡ x.import_map
  pub live : w.live_type_imports ≡ x.live_type_imports
  pub used : w.exports_used ≡ x.exports_used

-- of an encoder and options there is one world at most
abbrev pub WorldsUnique : EncoderView → Type 0
WorldsUnique e = (options : OptionsOf) (w x : ComponentWorldView) → IsWorldOf options e w → IsWorldOf options e x → IsSameWorld w x

-- where no function has a fault, there is no first fault
abbrev pub PlansExcludeFaults : Type 0
PlansExcludeFaults = (w : ComponentWorldView) (f : PlanFault) → HasNoFault w → ¬ IsFirstFault w f
