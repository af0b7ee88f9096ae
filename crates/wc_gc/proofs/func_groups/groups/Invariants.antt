use Rattle.std.proofs.Common.{◌≡◌, ℕ, ◌&&◌, take, false, true}
use Rattle.std.specs.Prelude.{nat_eq}
use Rattle.std.specs.List.{list_any}
use Rattle.wc_gc.specs.Private.FuncGroups.{has_func, is_in_group}
use Rattle.wc_gc.specs.Parts.{settings_view}
use Rattle.wc_gc.proofs.func_groups.groups.Given as goal

abbrev pub invariant-loop-index : goal.invariant-loop-index
invariant-loop-index g l =
    ((n : ℕ) → g.L.LiveSet.has l.imports n ≡ (list_any (nat_eq n) (take l.index-index l.indices) && has_func (is_in_group (settings_view l.settings) true) l.funcs n))
    × ((n : ℕ) → g.L.LiveSet.has l.defined n ≡ (list_any (nat_eq n) (take l.index-index l.indices) && has_func (is_in_group (settings_view l.settings) false) l.funcs n))
