use Rattle.std.proofs.Common.{take}
use Rattle.std.specs.List.{All}
use Rattle.std.specs.Str.{IsUtf8}
use Rattle.wc_calls.specs.ExportNames.{texts}
use Rattle.wc_calls.proofs.export_names.are_texts.Given as goal

abbrev pub invariant-loop-name : goal.invariant-loop-name
invariant-loop-name l = All IsUtf8 (texts (take l.name-index l.names))
