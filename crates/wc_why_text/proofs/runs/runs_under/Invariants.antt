use Rattle.std.proofs.Common.{◌≡◌, ℕ, map, take}
use Rattle.std.specs.List.{enumerate_from}
use Rattle.std.specs.declared.alloc.Global.{Global}
use Rattle.std.specs.declared.vec.Vec.{Vec}
use Rattle.wc_why_text.specs.Runs.{is_among, module_firsts}
use Rattle.wc_why.specs.Tree.{TreeModuleView, tree_module_view}
use Rattle.wc_why_text.proofs.runs.runs_under.Given as goal

abbrev pub invariant-loop-index : goal.invariant-loop-index
invariant-loop-index l =
    map (λ (v : Vec ℕ Global). v.items) l.firsts.items
    ≡ map (λ (e : ℕ × TreeModuleView). module_firsts (is_among l.ends.keys) e.0 e.1) (take l.index (enumerate_from 0 (map tree_module_view l.modules)))
