use Rattle.std.proofs.Common.{◌∙◌, ap, sym, map}
use Rattle.std.specs.Prelude.{◌||◌}
use Rattle.wc_validate.specs.Validate.{module_record}
use Rattle.wc_world.specs.WorldViews.{adapter_entry}
use Rattle.wc_world.proofs.SlotLemmas.{any_adapter, slot_used}
use Rattle.wc_world.proofs.world.ComponentWorld.can_use_context_slot_1.Goals as goal

pub returns-then-one_uses_slot_1 : goal.returns-then-one_uses_slot_1
returns-then-one_uses_slot_1 c =
    slot_used (module_record c.args.self.now.info) (map adapter_entry c.args.self.now.adapters.entries) c.one_uses_slot_1.result
    (c.if-one_uses_slot_1.true ∙ sym (ap (λ b. b || any_adapter (map adapter_entry c.args.self.now.adapters.entries)) (sym c.one_uses_slot_1.ensures ∙ c.if-one_uses_slot_1.true)))

pub returns-else-one_uses_slot_1 : goal.returns-else-one_uses_slot_1
returns-else-one_uses_slot_1 c =
    slot_used (module_record c.args.self.now.info) (map adapter_entry c.args.self.now.adapters.entries) c.adapter_uses_slot_1.result
    (c.adapter_uses_slot_1.ensures ∙ sym (ap (λ b. b || any_adapter (map adapter_entry c.args.self.now.adapters.entries)) (sym c.one_uses_slot_1.ensures ∙ c.if-one_uses_slot_1.false)))
