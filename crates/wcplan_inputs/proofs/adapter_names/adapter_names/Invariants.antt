use Rattle.std.proofs.Common.{◌≡◌, ◌++◌, map}
use Rattle.wc_adapters.specs.Adapters.{adapter_entry}
use Rattle.wc_maps.specs.Texts.{text_of}
use Rattle.wcplan_inputs.specs.AdapterNames.{names_of}
use Rattle.wcplan_inputs.proofs.adapter_names.adapter_names.Given as goal

abbrev pub invariant-loop-name : goal.invariant-loop-name
invariant-loop-name l = map text_of l.names.items ++ names_of (map adapter_entry l.name-iterator) ≡ names_of (map adapter_entry l.adapters.entries)
