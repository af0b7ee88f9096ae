use Rattle.std.proofs.Common.{List, ap, map}
use Rattle.wc_resolve.specs.declared.worlds.WorldItem.{WorldItem}
use Rattle.wc_resolve.specs.declared.worlds.WorldKey.{WorldKey}
use Rattle.wc_resolve.specs.Views.{item_view, world_entry}
use Rattle.wc_world.proofs.LoweringLemmas.{all_rest}
use Rattle.wc_record.specs.ExportOptions.{LiftedView, lifted_exports, lifted_item}
use Rattle.wc_record.specs.Private.ExportOptions.{IsLiftable, lifted_view}
use Rattle.wc_record.proofs.UsedLemmas.{gathered_end, gathered_next}
use Rattle.wc_record.proofs.export_options.lifted_among.Goals as goal

pub loop-key-preserved : goal.loop-key-preserved
loop-key-preserved c =
    let give : List (WorldKey × WorldItem) → List LiftedView = λ es. lifted_exports c.args.resolve.now (map world_entry es) in (
      all_rest (λ e. IsLiftable c.args.resolve.now (item_view e.1)) c.loop-key._key-iterator c.next.new.self
          (c.in-Some._key.now, c.in-Some.item.now) c.in-Some.ensures.steps c.loop-key.invariant.0,
      gathered_next give c.args.exports.now.entries c.loop-key._key-iterator c.next.new.self
          (lifted_item c.args.resolve.now (item_view c.in-Some.item.now)) (map lifted_view c.loop-key.list.items)
          (map lifted_view c.push_item.new.list.items) (ap give c.in-Some.ensures.steps) c.in_ok-push_item.ensures c.loop-key.invariant.1,
    )

pub returns : goal.returns
returns c =
    let give : List (WorldKey × WorldItem) → List LiftedView = λ es. lifted_exports c.args.resolve.now (map world_entry es) in
    gathered_end give c.args.exports.now.entries c.loop-key._key-iterator (map lifted_view c.loop-key.list.items)
    (ap give c.in-None.ensures.steps.0) c.loop-key.invariant.1
