use Rattle.std.proofs.Common.{subst, sym}
use Rattle.wc_world.specs.Options.{plain_options}
use Rattle.wc_world.specs.World.{IsWorldOf}
use Rattle.wc_world.specs.WorldViews.{world_view}
use Rattle.wc_world.specs.declared.world.ComponentWorld.{ComponentWorld}
use Rattle.wcplan.proofs.RunLemmas.{world_fault}
use Rattle.wcplan.proofs.program.made_world.Goals as goal

pub returns-in_ok-heaped-in-Ok-clause-world : goal.returns-in_ok-heaped-in-Ok-clause-world
returns-in_ok-heaped-in-Ok-clause-world c =
    subst (λ (w : ComponentWorld). IsWorldOf plain_options c.args.encoder.now (world_view w)) (sym c.in_ok-heaped-in-Ok.ensures) c.in-Ok.ensures.world

pub returns-in-Err-clause-fault : goal.returns-in-Err-clause-fault
returns-in-Err-clause-fault c =
    world_fault c.args.encoder.now c.in-Err.refused.fault c.world_fault.result c.in-Err.ensures.fault c.world_fault.ensures
