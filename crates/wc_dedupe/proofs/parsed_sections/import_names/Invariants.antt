use Rattle.std.proofs.Common.{◌≡◌, map, take}
use Rattle.wc_dedupe.specs.ParsedSections.{parsed_section_value, imports_of}
use Rattle.wc_dedupe.specs.Private.NamePositions.{names_of}
use Rattle.wc_dedupe.specs.Renaming.{originals}
use Rattle.wc_dedupe.proofs.parsed_sections.import_names.Given as goal

abbrev pub invariant-loop-part : goal.invariant-loop-part
invariant-loop-part l = names_of l.names.items ≡ originals (imports_of (map parsed_section_value (take l.part-index l.parts)))
