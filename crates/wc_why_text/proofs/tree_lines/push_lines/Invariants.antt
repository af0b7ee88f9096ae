use Rattle.std.proofs.Common.{◌≡◌, ◌++◌, ℕ, List, map, string_bytes}
use Rattle.wc_why.specs.Tree.{tree_module_view}
use Rattle.wc_why_text.proofs.LinesLemmas.{ArePassed}
use Rattle.wc_why_text.proofs.tree_lines.push_lines.Given as goal

abbrev pub invariant-loop-way : goal.invariant-loop-way
invariant-loop-way l =
    (passed : List ℕ) × (string_bytes l.text ≡ string_bytes l.fn.text ++ passed)
    × ArePassed l.of_component (map tree_module_view l.tree.modules.items) l.tree.ways.items l.way-index l.above.keys passed
