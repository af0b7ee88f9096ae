use Rattle.std.proofs.Common.{map, take}
use Rattle.std.specs.List.{AllZip}
use Rattle.wc_maps.specs.Texts.{text_pair}
use Rattle.wcplan_inputs.specs.Inputs.{IsFileIn}
use Rattle.wcplan_inputs.specs.Private.SharedKeys.{file_bytes}
use Rattle.wcplan_inputs.proofs.adapter_files.read_adapters.Given as goal

abbrev pub invariant-loop-name : goal.invariant-loop-name
invariant-loop-name g l =
    AllZip (IsFileIn (g.F.FileStore.held l.files)) (map text_pair (take l.name-index l.name-items)) (map file_bytes l.read.items)
