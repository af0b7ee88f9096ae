use Rattle.wc_world.specs.WorldViews.{world_view}
use Rattle.wc_tests.proofs.examples.world.read_world.Goals as goal

pub returns : goal.returns
returns c = (world_view c.in_ok-world.world, c.in_ok-world.ensures.world, c.in_ok-summary_of.ensures)
