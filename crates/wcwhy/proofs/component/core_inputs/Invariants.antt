use Rattle.std.proofs.Common.{◌≡◌, map, take}
use Rattle.wc_module_ways.specs.CoreModules.{core_given}
use Rattle.wcwhy.specs.Private.Component.{part_view}
use Rattle.wcwhy.proofs.component.core_inputs.Given as goal

abbrev pub invariant-loop-part : goal.invariant-loop-part
invariant-loop-part l = map core_given l.inputs.items ≡ map part_view (take l.part-index l.parts)
