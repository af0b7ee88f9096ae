use Rattle.std.proofs.Common.{◌≡◌, take}
use Rattle.wc_gc.specs.LiveItems.{names_of}
use Rattle.wc_texts.specs.Names.{first_occurrences}
use Rattle.wc_calls.specs.ExportNames.{texts}
use Rattle.wc_calls.proofs.export_names.name_set.Given as goal

abbrev pub invariant-loop-bytes : goal.invariant-loop-bytes
invariant-loop-bytes l = names_of l.set.keys ≡ first_occurrences (texts (take l.bytes-index l.names))
