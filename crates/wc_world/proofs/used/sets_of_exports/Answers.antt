use Rattle.std.proofs.Common.{◌∙◌}
use Rattle.wc_resolve.specs.Views.{key_view}
use Rattle.wc_world.specs.Used.{used_view}
use Rattle.wc_world.proofs.UsedLemmas.{no_sets}
use Rattle.wc_world.proofs.UsedWalkLemmas.{walk_end, walk_in, walk_next, walk_ready, walk_start}
use Rattle.wc_world.proofs.used.sets_of_exports.Goals as goal

pub loop-key-init : goal.loop-key-init
loop-key-init c = walk_start c.args.resolve.now c.args.exports.now.entries c.into_iter-key-iterator.result (used_view c.with_hasher-used.result) (c.into_iter-key-iterator.ensures.into_iter_gives ∙ c.iter-key-items.ensures.rest) (no_sets c.with_hasher-used.result c.with_hasher-used.ensures.empty)

pub add_export-requires-clause-there : goal.add_export-requires-clause-there
add_export-requires-clause-there c =
    walk_in c.args.resolve.now c.args.exports.now.entries c.loop-key._key-iterator c.next.new.self (c.in-Some._key.now, c.in-Some.item.now) (used_view c.loop-key.used) c.in-Some.ensures.steps c.requires.there c.loop-key.invariant

pub add_export-requires-clause-ready : goal.add_export-requires-clause-ready
add_export-requires-clause-ready c =
    walk_ready c.args.resolve.now c.args.exports.now.entries c.loop-key._key-iterator c.next.new.self (c.in-Some._key.now, c.in-Some.item.now) (used_view c.loop-key.used) c.in-Some.ensures.steps c.requires.before c.requires.keyed c.loop-key.invariant

pub loop-key-preserved : goal.loop-key-preserved
loop-key-preserved c =
    walk_next c.args.resolve.now c.args.exports.now.entries c.loop-key._key-iterator c.next.new.self (c.in-Some._key.now, c.in-Some.item.now) (used_view c.loop-key.used) (used_view c.add_export.new.used) c.in-Some.ensures.steps c.loop-key.invariant
    (c.in_ok-add_export.ensures c.loop-key.invariant.passed (key_view c.in-Some._key.now) c.loop-key.invariant.has)

pub returns : goal.returns
returns c = walk_end c.args.resolve.now c.args.exports.now.entries c.loop-key._key-iterator (used_view c.loop-key.used) c.in-None.ensures.steps.0 c.loop-key.invariant
