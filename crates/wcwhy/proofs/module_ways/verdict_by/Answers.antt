use Rattle.std.proofs.Common.{[], List, ap, map, rules, subst}
use Rattle.wc_module_ways.specs.Adapters.{adapter_view}
use Rattle.wc_module_ways.specs.Tree.{IsTree}
use Rattle.wc_why.specs.Tree.{tree_view}
use Rattle.wcwhy.specs.Private.Inputs.{allow_view}
use Rattle.wcwhy.proofs.ModuleWayLemmas.{verdict_cause, verdict_is, verdict_memory}
use Rattle.wcwhy.proofs.module_ways.verdict_by.Goals as goal

pub returns-in-Ok-clause-verdict : goal.returns-in-Ok-clause-verdict
returns-in-Ok-clause-verdict c w v =
    let tree = tree_view c.in-Ok.tree in
    let is : IsTree w [] [] tree = subst (λ patterns. IsTree w patterns [] tree) c.requires.all (c.in-Ok.ensures.tree w v) in
    verdict_is w (allow_view c.args.allow.now) tree is c.judge_ways.result (search rules) (search rules)

pub returns-in-Ok-clause-fault : goal.returns-in-Ok-clause-fault
returns-in-Ok-clause-fault c w v = verdict_memory w c.judge_ways.result c.judge_ways.ensures.fault

pub returns-in-Err-clause-fault : goal.returns-in-Err-clause-fault
returns-in-Err-clause-fault c w v =
    verdict_cause w (map adapter_view c.args.modules.now.adapters.items) v.adapters c.in-Err.refusal c.ways_fault.result c.in-Err.ensures.refused
    c.ways_fault.ensures
