use Rattle.std.proofs.Common.{◌∙◌, ap, string_bytes, sym}
use Rattle.std.specs.Option.{IsSome}
use Rattle.std.specs.Map.Iter.{deref_pair}
use Rattle.std.proofs.lemmas.Map.Views.{All-turn}
use Rattle.semver.specs.Identifiers.{parts_text}
use Rattle.wc_resolve.specs.declared.worlds.WorldKey.{WorldKey}
use Rattle.wc_resolve.specs.declared.worlds.WorldItem.{WorldItem}
use Rattle.wc_resolve.specs.Resolve.{key_text}
use Rattle.wc_resolve.specs.Ranges.{IsItemIn, IsKeyIn}
use Rattle.wc_resolve.specs.Views.{KeyView, ItemView, item_view, key_view, world_entry}
use Rattle.wc_resolve.proofs.ViewedLemmas.{all_unviewed}
use Rattle.wcplan_inputs.specs.Nearest.{is_alike}
use Rattle.wcplan_inputs.proofs.NearestLemmas.{found_there, named_found, named_none, named_passed}
use Rattle.wcplan_inputs.proofs.nearest.interface_alike.Goals as goal

pub name_world_key-requires-clause-there : goal.name_world_key-requires-clause-there
name_world_key-requires-clause-there c =
    All-turn deref_pair (λ (e : WorldKey × WorldItem). IsKeyIn c.args.resolve.now (key_view e.0)) _ _ _ _ _ _ _
    (all_unviewed world_entry (λ (x : KeyView × ItemView). IsKeyIn c.args.resolve.now x.0) c.args.items.now.entries c.requires.there)
    (c.into_iter-key-iterator.ensures.into_iter_gives ∙ c.iter-key-items.ensures.rest) c.loop-key.yielded_by c.in-Some.is c.next.ensures.steps

pub name_world_key-requires-clause-named : goal.name_world_key-requires-clause-named
name_world_key-requires-clause-named c =
    All-turn deref_pair (λ (e : WorldKey × WorldItem). IsSome (key_text parts_text c.args.resolve.now (key_view e.0))) _ _ _ _ _ _ _
    (all_unviewed world_entry (λ (x : KeyView × ItemView). IsSome (key_text parts_text c.args.resolve.now x.0)) c.args.items.now.entries c.requires.named)
    (c.into_iter-key-iterator.ensures.into_iter_gives ∙ c.iter-key-items.ensures.rest) c.loop-key.yielded_by c.in-Some.is c.next.ensures.steps

pub returns-then-is_alike-clause-named : goal.returns-then-is_alike-clause-named
returns-then-is_alike-clause-named c =
    c.interface_in.ensures ∙ named_found c.args.resolve.now c.loop-key.key-iterator c.next.new.self c.in-Some.key.now c.in-Some.item.now
    (string_bytes c.in_ok-key_text.key_text) c.in-Some.ensures.steps c.in_ok-key_text.ensures (is_alike c.args.text.now) _
    (ap (is_alike c.args.text.now) (sym c.deref.ensures) ∙ sym c.is_alike.ensures ∙ c.if-is_alike.true) c.loop-key.invariant

pub returns-then-is_alike-clause-there : goal.returns-then-is_alike-clause-there
returns-then-is_alike-clause-there c =
    found_there c.args.resolve.now (item_view c.in-Some.item.now) c.interface_in.result
    (All-turn deref_pair (λ (e : WorldKey × WorldItem). IsItemIn c.args.resolve.now (item_view e.1)) _ _ _ _ _ _ _
    (all_unviewed world_entry (λ (x : KeyView × ItemView). IsItemIn c.args.resolve.now x.1) c.args.items.now.entries c.requires.items)
    (c.into_iter-key-iterator.ensures.into_iter_gives ∙ c.iter-key-items.ensures.rest) c.loop-key.yielded_by c.in-Some.is c.next.ensures.steps)
    c.interface_in.ensures

pub loop-key-preserved : goal.loop-key-preserved
loop-key-preserved c =
    named_passed c.args.resolve.now c.loop-key.key-iterator c.next.new.self c.in-Some.key.now c.in-Some.item.now
    (string_bytes c.in_ok-key_text.key_text) c.in-Some.ensures.steps c.in_ok-key_text.ensures (is_alike c.args.text.now) _
    (ap (is_alike c.args.text.now) (sym c.deref.ensures) ∙ sym c.is_alike.ensures ∙ c.if-is_alike.false) c.loop-key.invariant

pub returns-clause-named : goal.returns-clause-named
returns-clause-named c = named_none c.args.resolve.now c.loop-key.key-iterator (is_alike c.args.text.now) _ c.in-None.ensures.steps.0 c.loop-key.invariant
