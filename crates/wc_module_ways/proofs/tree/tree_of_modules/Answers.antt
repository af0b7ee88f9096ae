use Rattle.std.proofs.Common.{All, map, subst}
use Rattle.wc_module_ways.specs.Adapters.{adapter_view}
use Rattle.wc_module_ways.specs.Refusals.{HasNoCause}
use Rattle.wc_module_ways.proofs.tree.tree_of_modules.Goals as goal

pub returns-clause-no_cause : goal.returns-clause-no_cause
returns-clause-no_cause c = subst (λ z. All HasNoCause (map adapter_view z)) c.deref.ensures.value c.in_ok-check_adapters.ensures.no_cause
