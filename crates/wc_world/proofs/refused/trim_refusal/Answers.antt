use Rattle.std.proofs.Common.{refl}
use Rattle.wc_world.specs.declared.fault.WorldFault.TheVariants.{Trim}
use Rattle.wc_world.specs.declared.places.ModulePlace.TheVariants as place
use Rattle.wc_world.proofs.RefusedLemmas.{named_if}
use Rattle.wc_world.proofs.refused.trim_refusal.Goals as goal

pub returns-in-Ok : goal.returns-in-Ok
returns-in-Ok c =
    named_if (λ s. Trim s c.args.refused.fault) place.Trim c.args.name.now c.args.refused.place c.in-Ok.own _ c.in_part.result c.refusal_in.result refl c.in-Ok.ensures.ok c.in_part.ensures
    c.refusal_in.ensures
