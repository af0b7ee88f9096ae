use Rattle.std.proofs.Common.{◌≡◌, map, take}
use Rattle.wc_read.specs.Imports.{import_value}
use Rattle.wc_module_ways.specs.Names.{function_pairs, pair_view}
use Rattle.wc_module_ways.proofs.functions.function_pairs.Given as goal

abbrev pub invariant-loop-import : goal.invariant-loop-import
invariant-loop-import l = map pair_view l.pairs.items ≡ function_pairs (map import_value (take l.import-index l.imports))
