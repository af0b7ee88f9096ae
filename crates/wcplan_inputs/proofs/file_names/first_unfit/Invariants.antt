use Rattle.std.proofs.Common.{All, map, take}
use Rattle.wc_maps.specs.Texts.{text_of}
use Rattle.wcplan_inputs.proofs.FileNameLemmas.{IsFit}
use Rattle.wcplan_inputs.proofs.file_names.first_unfit.Given as goal

abbrev pub invariant-loop-name : goal.invariant-loop-name
invariant-loop-name l = All IsFit (map text_of (take l.name-index l.names))
