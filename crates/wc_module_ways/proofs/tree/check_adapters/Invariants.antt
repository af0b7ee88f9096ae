use Rattle.std.proofs.Common.{All, map, take}
use Rattle.wc_module_ways.specs.Adapters.{adapter_view}
use Rattle.wc_module_ways.specs.Refusals.{HasNoCause}
use Rattle.wc_module_ways.proofs.tree.check_adapters.Given as goal

abbrev pub invariant-loop-adapter : goal.invariant-loop-adapter
invariant-loop-adapter l = All HasNoCause (map adapter_view (take l.adapter-index l.adapters))
