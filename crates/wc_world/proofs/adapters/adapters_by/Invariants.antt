use Rattle.std.proofs.Common.{map}
use Rattle.wc_validate.specs.Validate.{module_record}
use Rattle.wc_world.specs.WorldViews.{adapter_entry}
use Rattle.wc_world.proofs.AdapterLemmas.{AdaptersWalk}
use Rattle.wc_world.proofs.adapters.adapters_by.Given as goal

abbrev pub invariant-loop-name : goal.invariant-loop-name
invariant-loop-name l = AdaptersWalk l.context.encoder.now (module_record l.context.main.now) l.name-iterator (map adapter_entry l.found.entries)
