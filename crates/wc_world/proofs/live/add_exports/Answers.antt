use Rattle.std.proofs.Common.{◌∙◌, [], ap, map}
use Rattle.wc_resolve.specs.Ranges.{IsItemIn}
use Rattle.wc_resolve.specs.Views.{ItemView, KeyView, world_entry}
use Rattle.wc_world.specs.Live.{export_roots}
use Rattle.wc_world.specs.Used.{used_view}
use Rattle.wc_world.proofs.LiveWalkLemmas.{adds_none, live_end, live_has, live_next, live_start}
use Rattle.wc_world.proofs.SettledLemmas.{none_settled}
use Rattle.wc_world.proofs.live.add_exports.Goals as goal

pub loop-key-init : goal.loop-key-init
loop-key-init c = record {
  walk = live_start c.args.context.now.resolve.now (λ (x : KeyView × ItemView). export_roots c.args.context.now.resolve.now (used_view c.args.context.now.used.now) x.1) (map world_entry c.args.exports.now.entries) (map world_entry c.into_iter-key-iterator.result) [] c.args.live.now c.args.live.now
      (ap (map world_entry) (c.into_iter-key-iterator.ensures.into_iter_gives ∙ c.iter-key-items.ensures.rest)) (adds_none c.args.context.now.resolve.now c.args.live.now);
  are = none_settled c.args.context.now.resolve.now (used_view c.args.context.now.used.now) c.args.live.now c.new-settled.result.items c.new-settled.ensures.items;
}

pub add_export-requires-clause-there : goal.add_export-requires-clause-there
add_export-requires-clause-there c =
    live_has c.args.context.now.resolve.now (λ (x : KeyView × ItemView). export_roots c.args.context.now.resolve.now (used_view c.args.context.now.used.now) x.1) (map world_entry c.args.exports.now.entries) (map world_entry c.loop-key._key-iterator) [] c.args.live.now
    (λ (x : KeyView × ItemView). IsItemIn c.args.context.now.resolve.now x.1) (map world_entry c.next.new.self) (world_entry (c.in-Some._key.now, c.in-Some.item.now)) c.loop-key.live (ap (map world_entry) c.in-Some.ensures.steps) c.requires.there c.loop-key.invariant.walk

pub add_export-requires-clause-complete : goal.add_export-requires-clause-complete
add_export-requires-clause-complete c = (c.loop-key.invariant.walk.added c.requires.complete).0

pub add_export-requires-clause-used : goal.add_export-requires-clause-used
add_export-requires-clause-used c = c.requires.used

pub add_export-requires-clause-settled : goal.add_export-requires-clause-settled
add_export-requires-clause-settled c = c.loop-key.invariant.are

pub loop-key-preserved : goal.loop-key-preserved
loop-key-preserved c = record {
  walk = live_next c.args.context.now.resolve.now (λ (x : KeyView × ItemView). export_roots c.args.context.now.resolve.now (used_view c.args.context.now.used.now) x.1) (map world_entry c.args.exports.now.entries) (map world_entry c.loop-key._key-iterator) [] c.args.live.now
      (map world_entry c.next.new.self) (world_entry (c.in-Some._key.now, c.in-Some.item.now)) c.loop-key.live c.add_export.new.live (ap (map world_entry) c.in-Some.ensures.steps) c.in_ok-add_export.ensures.adds c.loop-key.invariant.walk;
  are = c.in_ok-add_export.ensures.settled;
}

pub returns : goal.returns
returns c =
    live_end c.args.context.now.resolve.now (λ (x : KeyView × ItemView). export_roots c.args.context.now.resolve.now (used_view c.args.context.now.used.now) x.1) (map world_entry c.args.exports.now.entries) (map world_entry c.loop-key._key-iterator) [] c.args.live.now c.loop-key.live
    (ap (map world_entry) c.in-None.ensures.steps.0) c.loop-key.invariant.walk
