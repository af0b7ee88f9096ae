use Rattle.wc_resolve.specs.Views.{world_view}
use Rattle.wc_fixtures.proofs.WorldRanges.{export_keys_in, import_keys_in}
use Rattle.wc_fixtures.proofs.in_worlds.interface_line.Goals as goal

pub find_interface-requires : goal.find_interface-requires
find_interface-requires g c = import_keys_in c.args.script.now.resolve.now (world_view c.in-Some.world.now) c.in-Some.ensures

pub find_interface-requires-else-imported : goal.find_interface-requires-else-imported
find_interface-requires-else-imported g c = export_keys_in c.args.script.now.resolve.now (world_view c.in-Some.world.now) c.in-Some.ensures
