use Rattle.wc_read.specs.Types.{func_type_value}
use Rattle.wc_read.specs.Decoded.{decoded_module}
use Rattle.wc_read.specs.Entries.{val_type_refs}
use Rattle.wc_gc.proofs.ReachLemmas.{finds_present}
use Rattle.wc_gc.proofs.search.Search.reach_func_type.Goals as goal

pub returns : goal.returns
returns g c =
    finds_present g.L.LiveSet.has (decoded_module c.args.adapter.now) c.args.self.now c.reach_types.new.self c.reach_types-2.new.self
    (val_type_refs (func_type_value c.args.ty.now).params) (val_type_refs (func_type_value c.args.ty.now).results)
    (rw c.params.ensures at c.in_ok-reach_types.ensures.found) (rw c.results.ensures at c.in_ok-reach_types-2.ensures.found)
