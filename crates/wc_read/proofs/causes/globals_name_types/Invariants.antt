use Rattle.std.proofs.Common.{◌≡◌, true, take}
use Rattle.std.specs.List.{list_all}
use Rattle.wc_read.specs.Causes.{global_has_types}
use Rattle.wc_read.specs.Reading.Globals.{local_global_value}
use Rattle.wc_read.proofs.causes.globals_name_types.Given as goal

abbrev pub invariant-loop-global : goal.invariant-loop-global
invariant-loop-global l = list_all (λ g. global_has_types l.types (local_global_value g)) (take l.global-index l.globals) ≡ true
