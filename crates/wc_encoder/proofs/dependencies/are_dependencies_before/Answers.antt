use Rattle.std.proofs.Common.{◌∙◌, List, sym, subst}
use Rattle.std.specs.Map.Iter.{deref_pair}
use Rattle.std.proofs.lemmas.Map.Views.{All-turn}
use Rattle.wc_resolve.specs.declared.worlds.WorldKey.{WorldKey}
use Rattle.wc_resolve.specs.declared.worlds.WorldItem.{WorldItem}
use Rattle.wc_resolve.specs.Ranges.{IsItemIn}
use Rattle.wc_resolve.specs.Views.{KeyView, ItemView, item_view, world_entry}
use Rattle.wc_resolve.proofs.ViewedLemmas.{all_unviewed}
use Rattle.wc_encoder.proofs.DependencyWalkLemmas.{IsDependencyWalk, walk_fails, walk_more, walk_none}
use Rattle.wc_encoder.proofs.dependencies.are_dependencies_before.Goals as goal

pub loop-key-init : goal.loop-key-init
loop-key-init c =
    subst (λ (z : List (WorldKey × WorldItem)). IsDependencyWalk c.args.resolve.now c.args.exports.now.entries z 0) (sym (c.into_iter-key-iterator.ensures.into_iter_gives ∙ c.iter-key-items.ensures.rest)) (walk_none c.args.resolve.now c.args.exports.now.entries)

pub is_independent-requires : goal.is_independent-requires
is_independent-requires c =
    All-turn deref_pair (λ (e : WorldKey × WorldItem). IsItemIn c.args.resolve.now (item_view e.1)) _ _ _ _ _ _ _
    (all_unviewed world_entry (λ (x : KeyView × ItemView). IsItemIn c.args.resolve.now x.1) c.args.exports.now.entries c.requires)
    (c.into_iter-key-iterator.ensures.into_iter_gives ∙ c.iter-key-items.ensures.rest) c.loop-key.yielded_by c.in-Some.is c.next.ensures.steps

pub returns-then-not-branch : goal.returns-then-not-branch
returns-then-not-branch c =
    walk_fails c.args.resolve.now c.args.exports.now.entries c.loop-key._key-iterator c.next.new.self (c.in-Some._key.now, c.in-Some.item.now) c.loop-key.index c.in_ok-is_independent.field-0 c.loop-key.invariant
    c.in-Some.ensures.steps c.in_ok-is_independent.ensures c.if-not-branch.true

pub loop-key-preserved : goal.loop-key-preserved
loop-key-preserved c =
    walk_more c.args.resolve.now c.args.exports.now.entries c.loop-key._key-iterator c.next.new.self (c.in-Some._key.now, c.in-Some.item.now) c.loop-key.index c.in_ok-is_independent.field-0 c.loop-key.invariant
    c.in-Some.ensures.steps c.in_ok-is_independent.ensures c.if-not-branch.false
