use Rattle.std.proofs.Common.{◌∙◌, ap, string_bytes, sym}
use Rattle.std.specs.Option.{IsSome}
use Rattle.std.specs.Map.Iter.{deref_pair}
use Rattle.std.proofs.lemmas.Map.Views.{All-turn}
use Rattle.semver.specs.Identifiers.{parts_text}
use Rattle.wc_resolve.specs.declared.worlds.WorldKey.{WorldKey}
use Rattle.wc_resolve.specs.declared.worlds.WorldItem.{WorldItem}
use Rattle.wc_resolve.specs.Resolve.{key_text}
use Rattle.wc_resolve.specs.Ranges.{IsKeyIn}
use Rattle.wc_resolve.specs.Views.{KeyView, ItemView, key_view, world_entry}
use Rattle.wc_resolve.proofs.ViewedLemmas.{all_unviewed}
use Rattle.wcplan_inputs.specs.Nearest.{is_near}
use Rattle.wcplan_inputs.proofs.NearestLemmas.{key_found, key_none, key_passed}
use Rattle.wcplan_inputs.proofs.nearest.near_key.Goals as goal

pub name_world_key-requires-clause-there : goal.name_world_key-requires-clause-there
name_world_key-requires-clause-there c =
    All-turn deref_pair (λ (e : WorldKey × WorldItem). IsKeyIn c.args.resolve.now (key_view e.0)) _ _ _ _ _ _ _
    (all_unviewed world_entry (λ (x : KeyView × ItemView). IsKeyIn c.args.resolve.now x.0) c.args.items.now.entries c.requires.there)
    (c.into_iter-key-iterator.ensures.into_iter_gives ∙ c.iter-key-items.ensures.rest) c.loop-key.yielded_by c.in-Some.is c.next.ensures.steps

pub name_world_key-requires-clause-named : goal.name_world_key-requires-clause-named
name_world_key-requires-clause-named c =
    All-turn deref_pair (λ (e : WorldKey × WorldItem). IsSome (key_text parts_text c.args.resolve.now (key_view e.0))) _ _ _ _ _ _ _
    (all_unviewed world_entry (λ (x : KeyView × ItemView). IsSome (key_text parts_text c.args.resolve.now x.0)) c.args.items.now.entries c.requires.named)
    (c.into_iter-key-iterator.ensures.into_iter_gives ∙ c.iter-key-items.ensures.rest) c.loop-key.yielded_by c.in-Some.is c.next.ensures.steps

pub returns-then-is_near : goal.returns-then-is_near
returns-then-is_near c =
    key_found c.args.resolve.now c.loop-key.key-iterator c.next.new.self c.in-Some.key.now c.in-Some._item.now (string_bytes c.in_ok-text.text)
    c.in-Some.ensures.steps c.in_ok-text.ensures c.args.name.now _
    (ap (is_near c.args.name.now) (sym c.deref.ensures) ∙ sym c.is_near.ensures ∙ c.if-is_near.true) c.loop-key.invariant

pub loop-key-preserved : goal.loop-key-preserved
loop-key-preserved c =
    key_passed c.args.resolve.now c.loop-key.key-iterator c.next.new.self c.in-Some.key.now c.in-Some._item.now (string_bytes c.in_ok-text.text)
    c.in-Some.ensures.steps c.in_ok-text.ensures c.args.name.now _
    (ap (is_near c.args.name.now) (sym c.deref.ensures) ∙ sym c.is_near.ensures ∙ c.if-is_near.false) c.loop-key.invariant

pub returns : goal.returns
returns c = key_none c.args.resolve.now c.loop-key.key-iterator c.args.name.now _ c.in-None.ensures.steps.0 c.loop-key.invariant
