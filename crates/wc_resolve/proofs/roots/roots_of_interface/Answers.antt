use Rattle.std.proofs.Common.{map, ap}
use Rattle.wc_resolve.specs.Roots.{id_index}
use Rattle.wc_resolve.proofs.PushedLemmas.{interface_pushed}
use Rattle.wc_resolve.proofs.roots.roots_of_interface.Goals as goal

pub returns : goal.returns
returns c =
    interface_pushed c.args.interface.now.types.entries c.args.interface.now.functions.entries (map id_index c.new-roots.result.items) (map id_index c.push_types.new.roots.items) (map id_index c.push_functions.new.roots.items)
    (ap (map id_index) c.new-roots.ensures.items) c.in_ok-push_types.ensures c.in_ok-push_functions.ensures
