use Rattle.std.proofs.Common.{◌≡◌, map, drop}
use Rattle.wc_read.specs.Sections.{section_value}
use Rattle.wc_read.proofs.OrderLemmas.{last_position}
use Rattle.wc_read.proofs.order.check_order.Given as goal

abbrev pub invariant-loop-section : goal.invariant-loop-section
invariant-loop-section l = last_position 0 (map section_value l.fn.sections) ≡ last_position l.position (map section_value (drop l.section-index l.sections))
