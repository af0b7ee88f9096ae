use Rattle.std.proofs.Common.{◌≡◌, ℕ, List, map}
use Rattle.std.specs.Io.KnownBytes.{Appends}
use Rattle.wc_why.specs.Tree.{tree_module_view}
use Rattle.wc_why_text.proofs.LinesLemmas.{ArePassed}
use Rattle.wc_why_text.proofs.tree_lines.put_lines.Given as goal

abbrev pub invariant-loop-way : goal.invariant-loop-way
invariant-loop-way g l =
    (passed : List ℕ) × Appends (g.S.Sink.written l.fn.out) (g.S.Sink.written l.out) passed
    × ArePassed l.of_component (map tree_module_view l.tree.modules.items) l.tree.ways.items l.way-index l.above.keys passed
    × (g.S.Sink.is_failed l.out ≡ g.S.Sink.is_failed l.fn.out)
