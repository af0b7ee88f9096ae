use Rattle.std.proofs.Common.{◌≡◌, ◌∙◌, ◌++◌, List, String, Global, map, subst, sym}
use Rattle.std.specs.Option.{IsSome}
use Rattle.std.specs.Map.Iter.{deref_pair}
use Rattle.std.proofs.lemmas.Map.Views.{All-turn}
use Rattle.semver.specs.Identifiers.{parts_text}
use Rattle.wc_resolve.specs.declared.worlds.WorldKey.{WorldKey}
use Rattle.wc_resolve.specs.declared.worlds.WorldItem.{WorldItem}
use Rattle.wc_resolve.specs.Resolve.{key_text}
use Rattle.wc_resolve.specs.Ranges.{IsKeyIn}
use Rattle.wc_resolve.specs.Views.{KeyView, ItemView, key_view, world_entry}
use Rattle.wc_resolve.proofs.ViewedLemmas.{all_unviewed}
use Rattle.wc_selection.proofs.KeyListLemmas.{keys_apart, named_all, named_more}
use Rattle.wc_selection.proofs.keys.named_keys.Goals as goal
use Rattle.wc_selection.specs.Keys.{AreKeysApart, named_key, named_keys}

pub name_world_key-requires-clause-there : goal.name_world_key-requires-clause-there
name_world_key-requires-clause-there c =
    All-turn deref_pair (λ (e : WorldKey × WorldItem). IsKeyIn c.args.resolve.now (key_view e.0)) _ _ _ _ _ _ _
    (all_unviewed world_entry (λ (x : KeyView × ItemView). IsKeyIn c.args.resolve.now x.0) c.args.exports.now.entries c.requires.there)
    (c.into_iter-key-iterator.ensures.into_iter_gives ∙ c.iter-key-items.ensures.rest) c.loop-key.yielded_by c.in-Some.is c.next.ensures.steps

pub name_world_key-requires-clause-named : goal.name_world_key-requires-clause-named
name_world_key-requires-clause-named c =
    All-turn deref_pair (λ (e : WorldKey × WorldItem). IsSome (key_text parts_text c.args.resolve.now (key_view e.0))) _ _ _ _ _ _ _
    (all_unviewed world_entry (λ (x : KeyView × ItemView). IsSome (key_text parts_text c.args.resolve.now x.0)) c.args.exports.now.entries c.requires.named)
    (c.into_iter-key-iterator.ensures.into_iter_gives ∙ c.iter-key-items.ensures.rest) c.loop-key.yielded_by c.in-Some.is c.next.ensures.steps

pub loop-key-preserved : goal.loop-key-preserved
loop-key-preserved c =
    subst (λ (l : List (WorldKey × String Global)). map named_key l ++ named_keys c.args.resolve.now (map world_entry c.next.new.self) ≡ named_keys
    c.args.resolve.now (map world_entry c.args.exports.now.entries)) (sym c.in_ok-push.ensures.items)
    (named_more c.args.resolve.now c.loop-key.key-iterator c.next.new.self c.in-Some.key.now c.in_ok-clone.field-0 c.in-Some._item.now c.in_ok-text.text
    c.loop-key.keys.items _ c.in-Some.ensures.steps c.in_ok-clone.ensures c.in_ok-text.ensures c.loop-key.invariant)

pub returns-clause-differ : goal.returns-clause-differ
returns-clause-differ c =
    let all = named_all c.args.resolve.now c.loop-key.key-iterator c.loop-key.keys.items _ c.in-None.ensures.steps.0 c.loop-key.invariant in
    subst AreKeysApart (sym all) (keys_apart c.args.resolve.now c.args.exports.now.entries c.len.ensures.unique)
