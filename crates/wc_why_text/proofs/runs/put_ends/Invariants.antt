use Rattle.std.proofs.Common.{◌≡◌, ℕ, ◌++◌, map, take}
use Rattle.std.specs.List.{enumerate_from, flat_map}
use Rattle.wc_why_text.specs.Runs.{module_ends}
use Rattle.wc_why.specs.Tree.{TreeModuleView, tree_module_view}
use Rattle.wc_why_text.proofs.runs.put_ends.Given as goal

abbrev pub invariant-loop-index : goal.invariant-loop-index
invariant-loop-index l =
    l.ends.items ≡ l.fn.ends.items
    ++ flat_map (λ (e : ℕ × TreeModuleView). module_ends e.0 e.1) (take l.index (enumerate_from 0 (map tree_module_view l.modules)))
