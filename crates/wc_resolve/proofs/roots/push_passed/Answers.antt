use Rattle.std.proofs.Common.{[], map}
use Rattle.std.specs.Option.{option_map_or}
use Rattle.std.specs.Rc.{rc_slice_items}
use Rattle.wc_resolve.specs.Roots.{id_index, type_roots}
use Rattle.wc_resolve.proofs.PushedLemmas.{passed}
use Rattle.wc_resolve.proofs.roots.push_passed.Goals as goal

pub returns : goal.returns
returns c =
    passed (rc_slice_items c.args.function.now.params) c.deref.result.now (option_map_or type_roots c.args.function.now.result []) (map id_index c.args.roots.now.items) (map id_index c.push_params.new.roots.items) (map id_index c.push_result.new.roots.items)
    c.deref.ensures.value c.in_ok-push_params.ensures c.in_ok-push_result.ensures
