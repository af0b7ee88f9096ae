-- What holds of an encoder holds too of one whose main module was given as other bytes, before its imports were renamed.
use Rattle.std.proofs.Common.{ℕ, Option, Vec}
use Rattle.std.specs.declared.alloc.Global.{Global}
use Rattle.wc_encoder.specs.EncoderParts.{given_view, parts_view}
use Rattle.wc_encoder.specs.Exported.{AreKeysExported}
use Rattle.wc_encoder.specs.Fault.{IsEncoderCause}
use Rattle.wc_encoder.specs.WellFormed.{IsWellFormed}
use Rattle.wc_encoder.specs.declared.encoder_parts.EncoderParts.{EncoderParts}
use Rattle.wc_encoder.specs.declared.fault.EncoderFault.{EncoderFault}
use Rattle.wc_encoder.specs.declared.fault.EncoderFault.TheVariants.{Memory, UnknownWorld, NotAnExport, TypeExported, InterfaceTwice, DependencyLater, ImportNameClash}

module _ (given : Option (Vec ℕ Global)) (p : EncoderParts) where
  pub given_formed : IsWellFormed (parts_view p) → IsWellFormed (given_view given p)
  unfolding AreKeysExported
  given_formed h = record {
    has_world = h.has_world;
    exported = h.exported;
    no_types = h.no_types;
    once = h.once;
    dependencies_before = h.dependencies_before;
    distinct = h.distinct;
  }

  pub given_cause : (f : EncoderFault) → IsEncoderCause (parts_view p) f → IsEncoderCause (given_view given p) f
  unfolding AreKeysExported
  given_cause Memory h = h
  given_cause UnknownWorld h = h
  given_cause NotAnExport h = h
  given_cause TypeExported h = h
  given_cause InterfaceTwice h = h
  given_cause DependencyLater h = h
  given_cause ImportNameClash h = h
