use Rattle.std.proofs.Common.{◌≡◌, map}
use Rattle.wc_why.specs.Part.{part_view}
use Rattle.wc_why.specs.Private.Marks.{mark_of}
use Rattle.wc_why.specs.Tree.{tree_module_view}
use Rattle.wc_why.proofs.ModuleLemmas.{AreModulesTo}
use Rattle.wc_why.proofs.modules.tree_modules.Given as goal

abbrev pub invariant-loop-position : goal.invariant-loop-position
invariant-loop-position l =
    AreModulesTo (map part_view l.shown.graph.parts.now) l.shown.tree.now.items.items l.shown.tree.now.from.items
    (λ y only. only ≡ mark_of l.shown.graph.numbers.now l.shown.marks.now y) l.position (map tree_module_view l.modules.items)
