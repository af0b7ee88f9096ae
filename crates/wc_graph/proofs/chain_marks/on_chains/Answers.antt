use Rattle.std.proofs.Common.{◌≡◌, length, rules, subst}
use Rattle.wc_graph.specs.Private.ChainMarks.{AreTargets}
use Rattle.wc_graph.proofs.ChainMarkLemmas.{all_on_chains}
use Rattle.wc_graph.proofs.chain_marks.on_chains.Goals as goal

pub returns : goal.returns
returns c =
    let finder = c.args.finder.now in
    let targets = c.args.targets.now in
    let sized : length c.in_ok-marks.marks.items ≡ length finder = search rules in
    all_on_chains finder targets c.with_targets-marks.result.items c.with_finders.result.items
    (subst (λ n. AreTargets targets n c.with_targets-marks.result.items) sized c.with_targets-marks.ensures) c.with_finders.ensures c.requires.there
