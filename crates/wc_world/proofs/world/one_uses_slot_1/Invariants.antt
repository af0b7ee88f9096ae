use Rattle.std.proofs.Common.{◌≡◌, ℕ, List}
use Rattle.std.specs.List.{list_any}
use Rattle.wc_names.specs.Views.{ImportView}
use Rattle.wc_validate.specs.Imports.Map.{imports_in}
use Rattle.wc_validate.specs.Imports.Iter.{imports_left}
use Rattle.wc_world.specs.Slots.{uses_slot_1}
use Rattle.wc_world.proofs.world.one_uses_slot_1.Given as goal

abbrev pub invariant-loop-module : goal.invariant-loop-module
invariant-loop-module l = list_any (λ (x : List ℕ × (List ℕ × ImportView)). uses_slot_1 x.1.1) (imports_in l.imports) ≡ list_any (λ (x : List ℕ × (List ℕ × ImportView)). uses_slot_1 x.1.1) (imports_left l._module-iterator)
