use Rattle.std.proofs.Common.{◌≡◌, map}
use Rattle.wc_world.proofs.SlotLemmas.{any_adapter}
use Rattle.wc_world.specs.WorldViews.{adapter_entry}
use Rattle.wc_world.proofs.world.adapter_uses_slot_1.Given as goal

abbrev pub invariant-loop-name : goal.invariant-loop-name
invariant-loop-name l = any_adapter (map adapter_entry l.adapters.entries) ≡ any_adapter (map adapter_entry l._name-iterator)
