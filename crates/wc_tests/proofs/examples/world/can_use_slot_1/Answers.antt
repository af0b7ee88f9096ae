use Rattle.wc_world.specs.WorldViews.{world_view}
use Rattle.wc_tests.proofs.examples.world.can_use_slot_1.Goals as goal

pub returns : goal.returns
returns c = (world_view c.in_ok-world.world, c.in_ok-world.ensures.world, c.can_use_context_slot_1.ensures)
