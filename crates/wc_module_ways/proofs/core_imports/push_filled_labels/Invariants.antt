use Rattle.std.proofs.Common.{◌≡◌, ◌++◌, map, take}
use Rattle.wc_segments.specs.Segments.{SegmentsValue}
use Rattle.wc_summary.specs.CoreModules.{label_value}
use Rattle.wc_module_ways.specs.CoreImports.{segment_label}
use Rattle.wc_module_ways.specs.Private.CoreImports.{AreFilled}
use Rattle.wc_module_ways.proofs.core_imports.push_filled_labels.Given as goal

abbrev pub invariant-loop-index : goal.invariant-loop-index
invariant-loop-index l =
    (s : SegmentsValue) → AreFilled s l.items l.texts
    → map label_value l.labels.items ≡ map label_value l.fn.labels.items ++ map (segment_label s) (take l.index l.items)
