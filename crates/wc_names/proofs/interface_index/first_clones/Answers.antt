use Rattle.std.proofs.Common.{◌∙◌}
use Rattle.std.specs.Map.Iter.{deref_pair}
use Rattle.std.proofs.lemmas.Map.Views.{All-turn}
use Rattle.wc_resolve.specs.declared.ids.InterfaceId.{InterfaceId}
use Rattle.wc_resolve.specs.declared.worlds.WorldKey.{WorldKey}
use Rattle.wc_resolve.specs.declared.worlds.WorldItem.{WorldItem}
use Rattle.wc_resolve.specs.Ranges.{IsKeyIn}
use Rattle.wc_resolve.specs.Views.{KeyView, ItemView, item_view, key_view, world_entry}
use Rattle.wc_resolve.proofs.ViewedLemmas.{all_unviewed}
use Rattle.wc_names.specs.InterfaceIndex.{IsCloneEntry, is_index}
use Rattle.wc_names.specs.Interfaces.{under_own_key}
use Rattle.wc_names.proofs.InterfaceIndexLemmas.{entry_kept, index_law}
use Rattle.wc_names.proofs.interface_index.first_clones.Goals as goal

pub copied_interface-requires : goal.copied_interface-requires
copied_interface-requires c =
    All-turn deref_pair (λ (e : WorldKey × WorldItem). IsKeyIn c.args.resolve.now (key_view e.0)) _ _ _ _ _ _ _
    (all_unviewed world_entry (λ (x : KeyView × ItemView). IsKeyIn c.args.resolve.now x.0) c.args.items.now.entries c.requires)
    (c.into_iter-key-iterator.ensures.into_iter_gives ∙ c.iter-key-items.ensures.rest) c.loop-key.yielded_by c.in-Some.is c.next.ensures.steps

pub loop-key-preserved-in-Continue-1 : goal.loop-key-preserved-in-Continue-1
loop-key-preserved-in-Continue-1 c =
    entry_kept (IsCloneEntry c.args.resolve.now) is_index (λ
    (k : InterfaceId). k.0) under_own_key index_law c.args.items.now.entries c.loop-key.key-iterator c.next.new.self c.in-Some.key.now c.in-Some._item.now
    c.loop-key.first.entries c.keep_first.new.kept.entries c.in-Some-copied_interface.source c.in-Some-copied_interface.id c.in-Some.ensures.steps
    ((rw c.in-Some-copied_interface.is at c.copied_interface.ensures) (item_view c.in-Some._item.now)) c.in_ok-keep_first.ensures c.loop-key.invariant
