use Rattle.std.proofs.Common.{All, map, take}
use Rattle.wc_module_ways.specs.CoreModules.{HasCore, IsCore, core_given, core_view}
use Rattle.wc_module_ways.specs.Matched.{AreMatched}
use Rattle.wc_module_ways.proofs.core_modules.read_core.Given as goal

abbrev pub invariant-loop-index : goal.invariant-loop-index
invariant-loop-index l = record {
  matched : AreMatched IsCore (map core_given (take l.index l.given)) (map core_view l.modules.items);
  has : All HasCore l.modules.items;
}
