use Rattle.std.proofs.Common.{Option, take}
use Rattle.wc_read.specs.Imports.{import_values}
use Rattle.wc_adapters.specs.Adapters.{LibraryView}
use Rattle.wc_validate.specs.Private.Imports.Arguments.{HasArgumentsOf}
use Rattle.wc_validate.specs.Private.Imports.Contexts.{AreRecorded, import_scope}
use Rattle.wc_validate.proofs.imports.record.record_imports.Given as goal

abbrev pub invariant-loop-index : goal.invariant-loop-index
invariant-loop-index l =
    (library : Option LibraryView) → HasArgumentsOf l.context.arguments library
    → AreRecorded (import_scope l.context library) (import_values (take l.index l.imports)) l.recorder
