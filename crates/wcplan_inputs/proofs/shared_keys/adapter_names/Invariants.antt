use Rattle.std.proofs.Common.{map, take}
use Rattle.std.specs.List.{AllZip}
use Rattle.wcplan_inputs.specs.SharedKeys.{IsNamedFile}
use Rattle.wcplan_inputs.specs.Private.SharedKeys.{adapter_view, file_bytes}
use Rattle.wcplan_inputs.proofs.shared_keys.adapter_names.Given as goal

abbrev pub invariant-loop-file : goal.invariant-loop-file
invariant-loop-file l = AllZip IsNamedFile (map file_bytes (take l.file-index l.files)) (map adapter_view l.names.items)
