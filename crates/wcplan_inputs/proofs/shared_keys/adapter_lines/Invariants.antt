use Rattle.std.proofs.Common.{◌≡◌, map, string_bytes, take}
use Rattle.std.specs.List.{flat_map}
use Rattle.wcplan_inputs.specs.SharedKeys.{adapter_line}
use Rattle.wcplan_inputs.specs.Private.SharedKeys.{adapter_view, asked_view}
use Rattle.wcplan_inputs.proofs.shared_keys.adapter_lines.Given as goal

abbrev pub invariant-loop-adapter : goal.invariant-loop-adapter
invariant-loop-adapter l =
    string_bytes l.text ≡ flat_map (adapter_line (asked_view l.asked)) (map adapter_view (take l.adapter-index l.adapters))
