use Rattle.std.proofs.Common.{◌≡◌, map, take}
use Rattle.wc_why.specs.Texts.{text_of}
use Rattle.wc_calls.specs.ExportNames.{texts}
use Rattle.wc_calls.proofs.export_names.text_list.Given as goal

abbrev pub invariant-loop-bytes : goal.invariant-loop-bytes
invariant-loop-bytes l = map text_of l.list.items ≡ texts (take l.bytes-index l.slices)
