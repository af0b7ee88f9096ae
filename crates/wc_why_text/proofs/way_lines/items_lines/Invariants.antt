use Rattle.std.proofs.Common.{◌≡◌, map, string_bytes, take}
use Rattle.std.specs.List.{flat_map}
use Rattle.wc_why.specs.Tree.{tree_module_view}
use Rattle.wc_why_text.specs.TreeLines.{lines_at}
use Rattle.wc_why_text.proofs.way_lines.items_lines.Given as goal

abbrev pub invariant-loop-item : goal.invariant-loop-item
invariant-loop-item l =
    string_bytes l.text ≡ flat_map (lines_at (l.how.of_component, l.how.typed) (map tree_module_view l.modules)) (take l.item-index l.items)
