use Rattle.std.proofs.Common.{◌≡◌, map, take}
use Rattle.wc_summary.specs.Summary.{bytes_of, part_view}
use Rattle.wc_summary.proofs.summary.bytes_of.Given as goal

abbrev pub invariant-loop-part : goal.invariant-loop-part
invariant-loop-part l = l.bytes ≡ bytes_of (map part_view (take l.part-index l.parts))
