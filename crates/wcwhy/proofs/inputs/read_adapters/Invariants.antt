use Rattle.std.proofs.Common.{map, take}
use Rattle.std.specs.List.{AllZip}
use Rattle.wc_maps.specs.Texts.{text_pair}
use Rattle.wcwhy.specs.Inputs.{IsAdapterFile}
use Rattle.wcwhy.specs.Private.Inputs.{file_view}
use Rattle.wcwhy.proofs.inputs.read_adapters.Given as goal

abbrev pub invariant-loop-name : goal.invariant-loop-name
invariant-loop-name g l =
    AllZip (IsAdapterFile (g.F.FileStore.held l.files)) (map text_pair (take l.name-index l.name-items)) (map file_view l.read.items)
