use Rattle.std.proofs.Common.{◌<◌, map, ℕ}
use Rattle.wc_component_file.specs.Told.{role_view}
use Rattle.wcwhy.specs.Private.Component.{IsMainAt}
use Rattle.wcwhy.proofs.component.main_index.Given as goal

abbrev pub invariant-loop-index : goal.invariant-loop-index
invariant-loop-index l = (k : ℕ) → k < l.index → ¬ IsMainAt (map role_view l.roles) k
