use Rattle.wc_world.specs.Options.{plain_options}
use Rattle.wc_world.specs.WorldViews.{world_view}
use Rattle.wc_tests.proofs.plan_calls.plan_without_lowerings.Goals as goal

pub plan-requires : goal.plan-requires
plan-requires c = c.worlds_nameable.ensures plain_options (world_view c.in_ok-world.world) c.in_ok-world.ensures.world
