use Rattle.std.proofs.Common.{◌≡◌, map, string_bytes, take}
use Rattle.std.specs.List.{flat_map}
use Rattle.wc_why.specs.Tree.{tree_caller_view}
use Rattle.wc_why_text.specs.TreeLines.{caller_line}
use Rattle.wc_why_text.proofs.way_lines.shown_lines.Given as goal

abbrev pub invariant-loop-caller : goal.invariant-loop-caller
invariant-loop-caller l = string_bytes l.lines ≡ flat_map caller_line (map tree_caller_view (take l.caller-index l.callers))
