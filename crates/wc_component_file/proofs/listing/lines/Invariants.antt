use Rattle.std.proofs.Common.{map, take, string_bytes}
use Rattle.wc_component_file.specs.Files.{core_module_view}
use Rattle.wc_component_file.specs.Listing.{AreLines}
use Rattle.wc_component_file.proofs.listing.lines.Given as goal

abbrev pub invariant-loop-position : goal.invariant-loop-position
invariant-loop-position l = AreLines (map core_module_view (take l.position l.modules)) (string_bytes l.text)
