use Rattle.std.proofs.Common.{◌≡◌, map, drop}
use Rattle.wc_read.specs.Sections.{section_value}
use Rattle.wc_read.specs.Order.{content_of}
use Rattle.wc_read.proofs.order.section_content.Given as goal

abbrev pub invariant-loop-section : goal.invariant-loop-section
invariant-loop-section l = content_of l.id (map section_value l.fn.sections) ≡ content_of l.id (map section_value (drop l.section-index l.sections))
