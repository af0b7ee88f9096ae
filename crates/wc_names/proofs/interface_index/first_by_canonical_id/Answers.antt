use Rattle.std.proofs.Common.{◌∙◌, string_bytes}
use Rattle.std.specs.Map.Iter.{deref_pair}
use Rattle.std.proofs.lemmas.Map.Views.{All-turn}
use Rattle.wc_resolve.specs.declared.worlds.WorldKey.{WorldKey}
use Rattle.wc_resolve.specs.declared.worlds.WorldItem.{WorldItem}
use Rattle.wc_resolve.specs.Ranges.{IsKeyIn}
use Rattle.wc_resolve.specs.Views.{KeyView, ItemView, key_view, world_entry}
use Rattle.wc_resolve.proofs.ViewedLemmas.{all_unviewed}
use Rattle.wc_names.specs.InterfaceIndex.{is_text}
use Rattle.wc_names.specs.Views.{keyed_view}
use Rattle.wc_names.specs.Interfaces.{IsCanonicalEntry}
use Rattle.wc_names.proofs.InterfaceIndexLemmas.{entry_kept, text_law}
use Rattle.wc_names.proofs.interface_index.first_by_canonical_id.Goals as goal

pub canonical_text-requires : goal.canonical_text-requires
canonical_text-requires c =
    All-turn deref_pair (λ (e : WorldKey × WorldItem). IsKeyIn c.args.resolve.now (key_view e.0)) _ _ _ _ _ _ _
    (all_unviewed world_entry (λ (x : KeyView × ItemView). IsKeyIn c.args.resolve.now x.0) c.args.items.now.entries c.requires)
    (c.into_iter-key-iterator.ensures.into_iter_gives ∙ c.iter-key-items.ensures.rest) c.loop-key.yielded_by c.in-Some.is c.next.ensures.steps

pub loop-key-preserved-in-Continue-branch-3 : goal.loop-key-preserved-in-Continue-branch-3
loop-key-preserved-in-Continue-branch-3 c =
    entry_kept (IsCanonicalEntry c.args.resolve.now) is_text string_bytes keyed_view text_law c.args.items.now.entries c.loop-key.key-iterator c.next.new.self
    c.in-Some.key.now c.in-Some.item.now
    c.loop-key.first.entries c.keep_first.new.kept.entries c.in-Some-2.text (c.in-Some.key, c.in-Some-2.id) c.in-Some.ensures.steps
    (rw c.in-Some-2.is at c.in_ok-text.ensures) c.in_ok-keep_first.ensures c.loop-key.invariant
