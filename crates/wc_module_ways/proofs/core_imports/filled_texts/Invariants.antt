use Rattle.std.proofs.Common.{◌≡◌, map, string_bytes, take}
use Rattle.wc_segments.specs.Segments.{segments_value}
use Rattle.wc_module_ways.specs.CoreImports.{filled_text}
use Rattle.wc_module_ways.proofs.core_imports.filled_texts.Given as goal

abbrev pub invariant-loop-item : goal.invariant-loop-item
invariant-loop-item l = map string_bytes l.texts.items ≡ map (filled_text (segments_value l.segments)) (take l.item-index l.items)
