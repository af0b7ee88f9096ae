use Rattle.std.proofs.Common.{◌∙◌, ap, map}
use Rattle.wc_world.proofs.FaultLemmas.{passed_on}
use Rattle.wc_world.specs.WorldViews.{adapter_entry, world_view}
use Rattle.wc_ways.specs.WaysFaults.{IsWaysFault}
use Rattle.wc_ways.proofs.ModuleLemmas.{so_far_all, so_far_in, so_far_next, so_far_none}
use Rattle.wc_ways.proofs.OriginalLemmas.{fault_of}
use Rattle.wc_ways.proofs.modules.read_adapters.Goals as goal

pub loop-name-init : goal.loop-name-init
loop-name-init c =
    let w = world_view c.args.world.now in
    let is = ap (map adapter_entry) c.into_iter-name-iterator.ensures.into_iter_gives in
    let all = ap (map adapter_entry) c.iter-name-items.ensures.rest in
    so_far_none w _ _ (is ∙ all) c.new-adapters.ensures.items

pub loop-name-preserved : goal.loop-name-preserved
loop-name-preserved c =
    let w = world_view c.args.world.now in
    so_far_next w (map adapter_entry c.loop-name.name-iterator) (map adapter_entry c.next.new.self) (adapter_entry (c.in-Some.name.now, c.in-Some.adapter.now))
    c.loop-name.adapters.items c.push.new.self.items c.in_ok-read.read (ap (map adapter_entry) c.in-Some.ensures.steps) c.in_ok-read.ensures.module
    c.in_ok-push.ensures.items c.loop-name.invariant

pub returns-in_err-read-clause-fault : goal.returns-in_err-read-clause-fault
returns-in_err-read-clause-fault c =
    let w = world_view c.args.world.now in
    let y = adapter_entry (c.in-Some.name.now, c.in-Some.adapter.now) in
    passed_on (IsWaysFault w) c.from_residual.result _ c.from_residual.ensures.1
    (fault_of w y _ (so_far_in w (map adapter_entry c.loop-name.name-iterator) (map adapter_entry c.next.new.self) y c.loop-name.adapters.items
    (ap (map adapter_entry) c.in-Some.ensures.steps) c.loop-name.invariant) c.in_err-read.ensures.fault)

pub returns-clause-modules : goal.returns-clause-modules
returns-clause-modules c =
    so_far_all (world_view c.args.world.now) (map adapter_entry c.loop-name.name-iterator) c.loop-name.adapters.items (ap (map adapter_entry) c.in-None.ensures.steps.0) c.loop-name.invariant
