use Rattle.std.proofs.Common.{◌≡◌, map, take}
use Rattle.wc_maps.specs.Texts.{text_of}
use Rattle.wcplan_inputs.specs.SharedKeys.{exporters}
use Rattle.wcplan_inputs.specs.Private.SharedKeys.{adapter_view, asked_view}
use Rattle.wcplan_inputs.proofs.shared_keys.exporters.Given as goal

abbrev pub invariant-loop-adapter : goal.invariant-loop-adapter
invariant-loop-adapter l = map text_of l.found.items ≡ exporters (asked_view l.asked) (map adapter_view (take l.adapter-index l.adapters))
