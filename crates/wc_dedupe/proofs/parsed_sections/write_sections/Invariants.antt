use Rattle.std.proofs.Common.{map, drop}
use Rattle.wc_dedupe.specs.ParsedSections.{parsed_section_value}
use Rattle.wc_dedupe.proofs.WriteSectionsLemmas.{AreWritten}
use Rattle.wc_dedupe.proofs.parsed_sections.write_sections.Given as goal

abbrev pub invariant-loop-part : goal.invariant-loop-part
invariant-loop-part l = AreWritten l.renames (map parsed_section_value l.parts) l.indices (map parsed_section_value (drop l.part-index l.parts)) l.left l.out.items
