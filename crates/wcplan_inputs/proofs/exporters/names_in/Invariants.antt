use Rattle.std.proofs.Common.{◌≡◌, ◌++◌, map}
use Rattle.wc_maps.specs.Texts.{text_of}
use Rattle.wcplan_inputs.specs.Nearest.{names_in}
use Rattle.wcplan_inputs.proofs.NearestLemmas.{names_of}
use Rattle.wcplan_inputs.proofs.exporters.names_in.Given as goal

abbrev pub invariant-loop-name : goal.invariant-loop-name
invariant-loop-name l = map text_of l.names.items ++ names_of l.name-iterator ≡ names_of l.interface.functions.entries
