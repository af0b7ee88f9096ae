use Rattle.wc_resolve.specs.Views.{world_view}
use Rattle.wc_fixtures.proofs.WorldRanges.{world_in_range}
use Rattle.wc_fixtures.proofs.contexts.first_world.Goals as goal

pub returns-then-has_world : goal.returns-then-has_world
returns-then-has_world c =
    world_in_range c.args.resolve.now 0 (world_view c.world.result.now) c.well_formedness.ensures.in_range c.world.ensures
