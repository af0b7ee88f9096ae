use Rattle.std.proofs.Common.{◌<◌, ◌≤◌, length, subst, rules, arith}
use Rattle.std.proofs.lemmas.List.{take_all}
use Rattle.wc_graph.specs.Private.Ways.{IsStopped}
use Rattle.wc_graph.proofs.StopLemmas.{stopped_more, stopped_none}
use Rattle.wc_graph.proofs.fronts.stop_at.Goals as goal

pub loop-item-init : goal.loop-item-init
loop-item-init c = stopped_none c.args.position c.args.positions.now.items

pub loop-item-preserved : goal.loop-item-preserved
loop-item-preserved c =
    let within : c.loop-item.item-index < length c.args.items.now = omega arith in
    stopped_more c.args.items.now c.loop-item.item-index c.args.position c.args.positions.now.items c.loop-item.positions.items within
    (c.requires c.loop-item.item-index 0 within) c.loop-item.invariant

pub returns : goal.returns
returns c =
    let over : length c.args.items.now ≤ c.loop-item.item-index = search rules in
    subst (λ z. IsStopped z c.args.position c.args.positions.now.items c.loop-item.positions.items) (take_all c.loop-item.item-index c.args.items.now over)
    c.loop-item.invariant
