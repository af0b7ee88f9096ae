-- Why an encoder has no plan.
use Rattle.std.specs.Prelude.{◌≢◌, ◌⊎◌}
use Rattle.wc_encoder.specs.EncoderParts.{EncoderView}
use Rattle.wc_world.specs.Causes.{IsComponentWorldCause, IsMemory}
use Rattle.wc_world.specs.Options.{OptionsOf}
use Rattle.wc_world.specs.Views.{ComponentWorldView}
use Rattle.wc_world.specs.World.{IsWorldOf}
use Rattle.wc_world.specs.declared.fault.WorldFault.{WorldFault}
use Rattle.wc_world.specs.declared.fault.WorldFault.TheVariants.{Memory as world_memory}
use Rattle.wc_plan.specs.Fault.{IsFirstFault}
use Rattle.wc_plan.specs.declared.fault.PlanFault.{PlanFault}
use Rattle.wc_plan.specs.declared.fault.PlanFault.TheVariants.{Memory, NoLowering, World}

-- the fault for a fault of the world
abbrev pub of_world : WorldFault → PlanFault
of_world world_memory = Memory
of_world f = World f

-- the component has no world, for this cause: one of the encoder, or that memory ran out in it
abbrev pub IsWorldCause : EncoderView → WorldFault → Type 0
IsWorldCause e f = (f ≢ world_memory) × (IsMemory e f ⊎ IsComponentWorldCause e f)

-- an allocation failed; or there is no world; or its plan has a fault
abbrev pub IsEncoderFault : OptionsOf → EncoderView → PlanFault → Type 0
IsEncoderFault options e Memory = Unit {0}
IsEncoderFault options e (World f) = IsWorldCause e f
IsEncoderFault options e f = (w : ComponentWorldView) × IsWorldOf options e w × IsFirstFault w f

-- the fault of an encoder that has this world: an allocation failed, perhaps while the world was made; or it is that of
-- the world's plan
abbrev pub IsFaultWith : EncoderView → ComponentWorldView → PlanFault → Type 0
IsFaultWith e w Memory = Unit {0}
IsFaultWith e w (World f) = (f ≢ world_memory) × IsMemory e f
IsFaultWith e w f = IsFirstFault w f

-- a fact of each world that an encoder and options have
abbrev pub ForWorlds : OptionsOf → EncoderView → (ComponentWorldView → Type 0) → Type 0
ForWorlds options e P = (w : ComponentWorldView) → IsWorldOf options e w → P w

-- a fault is not that a lowering is missing
abbrev pub IsLowered : PlanFault → Type 0
IsLowered (NoLowering name) = ⊥
IsLowered f = Unit {0}
