use Rattle.std.proofs.Common.{◌≡◌, map, take}
use Rattle.wc_maps.specs.Texts.{text_of}
use Rattle.wc_read.specs.Exports.{export_value}
use Rattle.wc_component_file.specs.Listing.{export_names}
use Rattle.wc_component_file.proofs.listing.export_names.Given as goal

abbrev pub invariant-loop-export : goal.invariant-loop-export
invariant-loop-export l = map text_of l.names.items ≡ export_names (map export_value (take l.export-index l.exports))
