use Rattle.std.proofs.Common.{◌≡◌, take}
use Rattle.wc_gc.specs.LiveItems.{names_of}
use Rattle.wc_texts.specs.Names.{first_occurrences}
use Rattle.wctrim_command.proofs.execution.required_exports.Given as goal

abbrev pub invariant-loop-export : goal.invariant-loop-export
invariant-loop-export l = names_of l.names.keys ≡ first_occurrences (names_of (take l.export-index l.exports))
