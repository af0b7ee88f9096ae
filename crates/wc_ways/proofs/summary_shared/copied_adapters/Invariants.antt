use Rattle.std.proofs.Common.{◌≡◌, map, take}
use Rattle.wc_summary.specs.Summary.{part_view}
use Rattle.wc_ways.proofs.summary_shared.copied_adapters.Given as goal

abbrev pub invariant-loop-part : goal.invariant-loop-part
invariant-loop-part l = map part_view l.copied.items ≡ map part_view (take l.part-index l.parts)
