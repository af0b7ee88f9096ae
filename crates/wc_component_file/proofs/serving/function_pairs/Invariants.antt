use Rattle.std.proofs.Common.{◌≡◌, map, take}
use Rattle.wc_read.specs.Imports.{import_value}
use Rattle.wc_maps.specs.Texts.{text_pair}
use Rattle.wc_component_file.specs.Serving.{function_pairs}
use Rattle.wc_component_file.proofs.serving.function_pairs.Given as goal

abbrev pub invariant-loop-import : goal.invariant-loop-import
invariant-loop-import l = map text_pair l.pairs.items ≡ function_pairs (map import_value (take l.import-index l.imports))
