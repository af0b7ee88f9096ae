use Rattle.std.proofs.Common.{Some, refl}
use Rattle.wc_world.specs.declared.fault.WorldFault.TheVariants.{PageSize}
use Rattle.wc_world.specs.declared.places.ModulePlace.{ModulePlace}
use Rattle.wc_world.specs.declared.places.ModulePlace.TheVariants as place
use Rattle.wc_world.proofs.RefusedLemmas.{named_if}
use Rattle.wc_world.proofs.refused.page_refusal.Goals as goal

pub returns-in-Ok : goal.returns-in-Ok
returns-in-Ok c =
    named_if (λ s. PageSize s c.args.own c.args.main) (λ (p : ModulePlace). p) c.args.name.now (Some (place.PageSizes c.args.own c.args.main)) c.in-Ok.of _ (Some (place.PageSizes c.args.own c.args.main)) c.refusal_in.result refl c.in-Ok.ensures.ok refl
    c.refusal_in.ensures
