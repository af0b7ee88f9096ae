use Rattle.std.proofs.Common.{map, take}
use Rattle.wc_read.specs.Sections.{section_value}
use Rattle.wc_dedupe.specs.ParsedSections.{parsed_section_value, AreSpelled}
use Rattle.wc_dedupe.proofs.parsed_sections.parse_sections.Given as goal

abbrev pub invariant-loop-section : goal.invariant-loop-section
invariant-loop-section l = AreSpelled (map section_value (take l.section-index l.sections)) (map parsed_section_value l.parts.items)
