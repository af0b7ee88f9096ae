use Rattle.std.proofs.Common.{◌∙◌}
use Rattle.std.specs.Map.Iter.{deref_pair}
use Rattle.std.proofs.lemmas.Map.Views.{All-turn}
use Rattle.wc_resolve.specs.declared.worlds.WorldKey.{WorldKey}
use Rattle.wc_resolve.specs.declared.worlds.WorldItem.{WorldItem}
use Rattle.wc_resolve.specs.Ranges.{IsKeyIn}
use Rattle.wc_resolve.specs.Views.{KeyView, ItemView, key_view, world_entry}
use Rattle.wc_resolve.proofs.ViewedLemmas.{all_unviewed}
use Rattle.wc_names.proofs.interfaces.first_of_track.Goals as goal

pub is_on_track-requires-clause-in_range : goal.is_on_track-requires-clause-in_range
is_on_track-requires-clause-in_range c =
    let in_range = All-turn deref_pair (λ (e : WorldKey × WorldItem). IsKeyIn c.args.resolve.now (key_view e.0)) _ _ _ _ _ _ _
    (all_unviewed world_entry (λ (x : KeyView × ItemView). IsKeyIn c.args.resolve.now x.0) c.args.items.now.entries c.requires.in_range)
    (c.into_iter-key-iterator.ensures.into_iter_gives ∙ c.iter-key-items.ensures.rest) c.loop-key.yielded_by c.in-Some.is c.next.ensures.steps in
    rw c.in-Interface.is at in_range
