use Rattle.std.proofs.Common.{◌≡◌, drop, map}
use Rattle.wc_maps.specs.Texts.{text_of}
use Rattle.wcplan_inputs.specs.Nearest.{first_near}
use Rattle.wcplan_inputs.proofs.adapter_names.near_name.Given as goal

abbrev pub invariant-loop-one : goal.invariant-loop-one
invariant-loop-one l = first_near l.name (map text_of (drop l.one-index l.names)) ≡ first_near l.name (map text_of l.names)
