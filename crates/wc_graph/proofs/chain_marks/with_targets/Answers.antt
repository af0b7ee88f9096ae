use Rattle.std.proofs.Common.{◌<◌, ◌≤◌, length, refl, rules, subst}
use Rattle.std.proofs.lemmas.List.{take_all}
use Rattle.wc_graph.specs.Private.ChainMarks.{AreTargets}
use Rattle.wc_graph.proofs.ChainMarkLemmas.{none_marked, one_marked}
use Rattle.wc_graph.proofs.chain_marks.with_targets.Goals as goal

pub loop-target-init : goal.loop-target-init
loop-target-init c = none_marked c.args.targets.now (length c.args.marks.items) c.args.marks.items refl c.requires.none

pub loop-target-preserved : goal.loop-target-preserved
loop-target-preserved c =
    let targets = c.args.targets.now in
    let within : c.loop-target.target-index < length targets = search rules in
    one_marked targets (length c.args.marks.items) c.loop-target.target-index c.loop-target.marks.items within
    (c.requires.there c.loop-target.target-index 0 within) c.loop-target.invariant

pub returns : goal.returns
returns c =
    let targets = c.args.targets.now in
    let over : length targets ≤ c.loop-target.target-index = search rules in
    subst (λ z. AreTargets z (length c.args.marks.items) c.loop-target.marks.items) (take_all c.loop-target.target-index targets over) c.loop-target.invariant
