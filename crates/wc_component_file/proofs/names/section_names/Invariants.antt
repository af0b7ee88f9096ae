use Rattle.std.proofs.Common.{length}
use Rattle.wc_component_file.specs.Private.Names.{name_pairs}
use Rattle.wc_component_file.proofs.NamesLemmas.{AreNamesTo}
use Rattle.wc_component_file.proofs.names.section_names.Given as goal

abbrev pub invariant-loop-subsection : goal.invariant-loop-subsection
invariant-loop-subsection l = AreNamesTo l.fn.bytes (name_pairs l.all.items) l.reader.rest.now

abbrev pub decreases-loop-subsection : goal.decreases-loop-subsection
decreases-loop-subsection l = length l.reader.rest.now
