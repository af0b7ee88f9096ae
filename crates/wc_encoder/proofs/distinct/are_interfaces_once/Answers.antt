use Rattle.std.proofs.Common.{◌≡◌, true, false, map, refl}
use Rattle.wc_resolve.specs.declared.ids.InterfaceId.{InterfaceId}
use Rattle.wc_resolve.specs.Views.{world_entry}
use Rattle.wc_encoder.specs.Distinct.{exported_interfaces}
use Rattle.wc_resolve.proofs.KeyLemmas.{ids_law}
use Rattle.wc_encoder.proofs.LookupLemmas.{interface_next}
use Rattle.wc_maps.proofs.SeenLemmas.{seen_again, seen_more}
use Rattle.wc_encoder.proofs.distinct.are_interfaces_once.Goals as goal

pub returns-then-not-is_new : goal.returns-then-not-is_new
returns-then-not-is_new c = (
  (λ t. absurd (let e : false ≡ true = t in let bad : ⊥ = cc e in bad)),
  (λ distinct. absurd (seen_again (λ (id : InterfaceId). id.0) (exported_interfaces (map world_entry c.args.exports.now.entries)) (exported_interfaces (map world_entry c.loop-key._key-iterator))
      (exported_interfaces (map world_entry c.next.new.self)) _ c.loop-key.seen.keys c.in-Interface.id.0 c.in_ok-_index.is_new (λ y. ids_law c.in-Interface.id y) c.loop-key.invariant
      (interface_next c.loop-key._key-iterator c.next.new.self c.in-Some._key.now c.in-Some.item.now c.in-Interface.id c.in-Interface.external_id c.in-Some.ensures.steps c.in-Interface.is)
      c.in_ok-_index.ensures.added c.if-not-is_new.true distinct)),
)

pub loop-key-preserved-else-not-is_new : goal.loop-key-preserved-else-not-is_new
loop-key-preserved-else-not-is_new c =
    seen_more (λ (id : InterfaceId). id.0) (exported_interfaces (map world_entry c.args.exports.now.entries)) (exported_interfaces (map world_entry c.loop-key._key-iterator))
    (exported_interfaces (map world_entry c.next.new.self)) _ c.loop-key.seen.keys c.insert_full.new.self.keys c.in-Interface.id c.in-Interface.id.0 c.in_ok-_index.is_new (λ y. ids_law c.in-Interface.id y) refl c.loop-key.invariant
    (interface_next c.loop-key._key-iterator c.next.new.self c.in-Some._key.now c.in-Some.item.now c.in-Interface.id c.in-Interface.external_id c.in-Some.ensures.steps c.in-Interface.is)
    c.in_ok-_index.ensures.added c.if-not-is_new.false c.in_ok-_index.ensures.keys
