use Rattle.std.proofs.Common.{◌≡◌, ◌∙◌, true, false, map, sym}
use Rattle.std.specs.Option.{IsSome}
use Rattle.std.specs.Map.Iter.{deref_pair}
use Rattle.std.proofs.lemmas.Map.Views.{All-turn}
use Rattle.semver.specs.Identifiers.{parts_text}
use Rattle.wc_resolve.specs.declared.worlds.WorldKey.{WorldKey}
use Rattle.wc_resolve.specs.declared.worlds.WorldItem.{WorldItem}
use Rattle.wc_resolve.specs.Resolve.{key_text}
use Rattle.wc_resolve.specs.Ranges.{IsKeyIn}
use Rattle.wc_resolve.specs.Views.{KeyView, ItemView, key_view, world_entry}
use Rattle.wc_resolve.proofs.ViewedLemmas.{all_unviewed}
use Rattle.wc_encoder.specs.Distinct.{import_names}
use Rattle.wc_resolve.proofs.KeyLemmas.{names_law}
use Rattle.wc_encoder.proofs.LookupLemmas.{name_next}
use Rattle.wc_maps.proofs.SeenLemmas.{name_text, seen_again, seen_more}
use Rattle.wc_encoder.proofs.distinct.are_names_distinct.Goals as goal

pub name_world_key-requires-clause-there : goal.name_world_key-requires-clause-there
name_world_key-requires-clause-there c =
    All-turn deref_pair (λ (e : WorldKey × WorldItem). IsKeyIn c.args.resolve.now (key_view e.0)) _ _ _ _ _ _ _
    (all_unviewed world_entry (λ (x : KeyView × ItemView). IsKeyIn c.args.resolve.now x.0) c.args.imports.now.entries c.requires.there)
    (c.into_iter-key-iterator.ensures.into_iter_gives ∙ c.iter-key-items.ensures.rest) c.loop-key.yielded_by c.in-Some.is c.next.ensures.steps

pub name_world_key-requires-clause-named : goal.name_world_key-requires-clause-named
name_world_key-requires-clause-named c =
    All-turn deref_pair (λ (e : WorldKey × WorldItem). IsSome (key_text parts_text c.args.resolve.now (key_view e.0))) _ _ _ _ _ _ _
    (all_unviewed world_entry (λ (x : KeyView × ItemView). IsSome (key_text parts_text c.args.resolve.now x.0)) c.args.imports.now.entries c.requires.named)
    (c.into_iter-key-iterator.ensures.into_iter_gives ∙ c.iter-key-items.ensures.rest) c.loop-key.yielded_by c.in-Some.is c.next.ensures.steps

pub returns-then-not-is_new : goal.returns-then-not-is_new
returns-then-not-is_new c = (
  (λ t. absurd (let e : false ≡ true = t in let bad : ⊥ = cc e in bad)),
  (λ distinct. absurd (seen_again name_text (import_names c.args.resolve.now (map world_entry c.args.imports.now.entries)) (import_names c.args.resolve.now (map world_entry c.loop-key.key-iterator))
      (import_names c.args.resolve.now (map world_entry c.next.new.self)) _ c.loop-key.seen.keys (key_text parts_text c.args.resolve.now (key_view c.in-Some.key.now)) c.in_ok-_index.is_new
      (λ y. names_law (key_text parts_text c.args.resolve.now (key_view c.in-Some.key.now)) c.in_ok-name.name c.in_ok-name.ensures y) c.loop-key.invariant
      (name_next c.args.resolve.now c.loop-key.key-iterator c.next.new.self c.in-Some.key.now c.in-Some._item.now c.in-Some.ensures.steps)
      c.in_ok-_index.ensures.added c.if-not-is_new.true distinct)),
)

pub loop-key-preserved : goal.loop-key-preserved
loop-key-preserved c =
    seen_more name_text (import_names c.args.resolve.now (map world_entry c.args.imports.now.entries)) (import_names c.args.resolve.now (map world_entry c.loop-key.key-iterator))
    (import_names c.args.resolve.now (map world_entry c.next.new.self)) _ c.loop-key.seen.keys c.insert_full.new.self.keys c.in_ok-name.name (key_text parts_text c.args.resolve.now (key_view c.in-Some.key.now)) c.in_ok-_index.is_new
    (λ y. names_law (key_text parts_text c.args.resolve.now (key_view c.in-Some.key.now)) c.in_ok-name.name c.in_ok-name.ensures y) (sym c.in_ok-name.ensures) c.loop-key.invariant
    (name_next c.args.resolve.now c.loop-key.key-iterator c.next.new.self c.in-Some.key.now c.in-Some._item.now c.in-Some.ensures.steps)
    c.in_ok-_index.ensures.added c.if-not-is_new.false c.in_ok-_index.ensures.keys
