use Rattle.std.proofs.Common.{map, take}
use Rattle.wc_adapters.specs.Adapters.{argument_view}
use Rattle.wc_validate.specs.Private.Imports.Arguments.{AreMatched, module_entry}
use Rattle.wc_validate.proofs.imports.arguments.arguments_by_module.Given as goal

abbrev pub invariant-loop-argument : goal.invariant-loop-argument
invariant-loop-argument l = AreMatched (map module_entry l.index.entries) (map argument_view (take l.argument-index l.arguments))
