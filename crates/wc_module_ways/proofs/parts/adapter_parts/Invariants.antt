use Rattle.std.proofs.Common.{map, take}
use Rattle.wc_why.specs.Part.{part_view}
use Rattle.wc_module_ways.specs.Adapters.{adapter_view}
use Rattle.wc_module_ways.specs.Parts.{AreAdapterParts}
use Rattle.wc_module_ways.proofs.parts.adapter_parts.Given as goal

abbrev pub invariant-loop-adapter : goal.invariant-loop-adapter
invariant-loop-adapter l = AreAdapterParts (map adapter_view (take l.adapter-index l.adapters)) (map part_view l.parts.items)
