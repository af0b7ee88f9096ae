use Rattle.std.proofs.Common.{◌≡◌, ◌-◌, map}
use Rattle.std.specs.List.{range_with_len}
use Rattle.wc_why_text.specs.Runs.{first_of, is_among, is_joined}
use Rattle.wc_why.specs.Tree.{tree_module_view}
use Rattle.wc_why_text.proofs.runs.module_firsts.Given as goal

abbrev pub invariant-loop-position : goal.invariant-loop-position
invariant-loop-position l =
    (l.firsts.items ≡ map (first_of (is_joined (is_among l.ends.keys) l.index (tree_module_view l.«module»))) (range_with_len 0 l.position))
    × (l.first ≡ first_of (is_joined (is_among l.ends.keys) l.index (tree_module_view l.«module»)) (l.position - 1))
