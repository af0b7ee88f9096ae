use Rattle.std.proofs.Common.{◌≡◌, ◌++◌, map, drop}
use Rattle.wc_read.specs.Imports.{import_value}
use Rattle.wc_read.specs.Reading.Globals.{local_global_value}
use Rattle.wc_read.specs.Items.{global_value}
use Rattle.wc_read.specs.Spaces.{global_of, imported_items, defined_global}
use Rattle.wc_read.proofs.spaces.globals.Given as goal

abbrev pub invariant-loop-global : goal.invariant-loop-global
invariant-loop-global l = map global_value l.globals.items ++ map defined_global (map local_global_value (drop l.global-index l.locals)) ≡ imported_items global_of (map import_value l.fn.imports) ++ map defined_global (map local_global_value l.fn.locals)
