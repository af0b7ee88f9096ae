-- Encoders that are well-formed: what the world of an encoder has to be for modules to be encoded for it.
use Rattle.wc_encoder.specs.Dependencies.{AreDependenciesBefore}
use Rattle.wc_encoder.specs.Distinct.{AreInterfacesOnce, AreNamesDistinct}
use Rattle.wc_encoder.specs.EncoderParts.{EncoderView, HasWorld, world_exports, world_imports}
use Rattle.wc_encoder.specs.Exported.{AreKeysExported, AreNoTypes}

pub record IsWellFormed (e : EncoderView) : Type 0 where
  pub has_world : HasWorld e
  pub exported : AreKeysExported e (world_exports e)
  pub no_types : AreNoTypes (world_exports e)
  pub once : AreInterfacesOnce (world_exports e)
  pub dependencies_before : AreDependenciesBefore e.resolve (world_exports e)
  pub distinct : AreNamesDistinct e.resolve (world_imports e)
