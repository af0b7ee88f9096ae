use Rattle.wc_component_file.proofs.NamesLemmas.{ArePairsTo}
use Rattle.wc_component_file.specs.Private.Names.{name_pairs}
use Rattle.wc_component_file.proofs.names.subsection_names.Given as goal

abbrev pub invariant-loop : goal.invariant-loop
invariant-loop l = ArePairsTo l.fn.bytes l.count (name_pairs l.names.items) l.counter l.reader.rest.now
