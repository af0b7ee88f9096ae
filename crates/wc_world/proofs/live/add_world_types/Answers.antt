use Rattle.std.proofs.Common.{◌∙◌, [], ap, map, subst}
use Rattle.std.specs.Option.{option_to_list}
use Rattle.wc_resolve.specs.Live.{AddsListings}
use Rattle.wc_resolve.specs.Ranges.{IsItemIn}
use Rattle.wc_resolve.specs.Views.{ItemView, KeyView, world_entry}
use Rattle.wc_names.specs.Keys.{as_type}
use Rattle.wc_world.proofs.LiveWalkLemmas.{adds_none, each_listed, live_end, live_has, live_next, live_start}
use Rattle.wc_world.proofs.live.add_world_types.Goals as goal

pub loop-key-init : goal.loop-key-init
loop-key-init c =
    live_start c.args.resolve.now (λ (x : KeyView × ItemView). option_to_list (as_type x.1)) (map world_entry c.args.imports.now.entries) (map world_entry c.into_iter-key-iterator.result) [] c.args.live.now c.args.live.now
    (ap (map world_entry) (c.into_iter-key-iterator.ensures.into_iter_gives ∙ c.iter-key-items.ensures.rest)) (adds_none c.args.resolve.now c.args.live.now)

pub add_type_item-requires : goal.add_type_item-requires
add_type_item-requires c =
    live_has c.args.resolve.now (λ (x : KeyView × ItemView). option_to_list (as_type x.1)) (map world_entry c.args.imports.now.entries) (map world_entry c.loop-key._key-iterator) [] c.args.live.now
    (λ (x : KeyView × ItemView). IsItemIn c.args.resolve.now x.1) (map world_entry c.next.new.self) (world_entry (c.in-Some._key.now, c.in-Some.item.now)) c.loop-key.live (ap (map world_entry) c.in-Some.ensures.steps) c.requires c.loop-key.invariant

pub loop-key-preserved : goal.loop-key-preserved
loop-key-preserved c =
    live_next c.args.resolve.now (λ (x : KeyView × ItemView). option_to_list (as_type x.1)) (map world_entry c.args.imports.now.entries) (map world_entry c.loop-key._key-iterator) [] c.args.live.now
    (map world_entry c.next.new.self) (world_entry (c.in-Some._key.now, c.in-Some.item.now)) c.loop-key.live c.add_type_item.new.live (ap (map world_entry) c.in-Some.ensures.steps) c.in_ok-add_type_item.ensures c.loop-key.invariant

pub returns : goal.returns
returns c =
    subst (AddsListings c.args.resolve.now c.args.live.now c.loop-key.live) (each_listed (λ (x : KeyView × ItemView). as_type x.1) (map world_entry c.args.imports.now.entries))
    (live_end c.args.resolve.now (λ (x : KeyView × ItemView). option_to_list (as_type x.1)) (map world_entry c.args.imports.now.entries) (map world_entry c.loop-key._key-iterator) [] c.args.live.now c.loop-key.live
    (ap (map world_entry) c.in-None.ensures.steps.0) c.loop-key.invariant)
